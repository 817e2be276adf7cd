-- `reader::read_rows` meets its contract: the promise of the first two lines, then that of the others. What one section reads the others leave as it is.
use Rattle.std.proofs.Common.{◌≡◌, ap, ◌∙◌, arith}
use Rattle.std.proofs.lemmas.Result.{err_from_is_err_and}
use Rattle.rows.specs.declared.Tables.{Tables}
use Rattle.reader.specs.Sections.{transition_rows, rows_of_steps, machine_rows, rows_of_machines, no_steps, no_machines}
use Rattle.reader.proofs.Answering.{rows_refused, rows_passed, answering_rows}
use Rattle.reader.proofs.read_rows.Goals.{After-read_first_lines, After-read_transitions, After-read_machines}
use Rattle.reader.proofs.read_rows.Goals as goal

pub returns-in_err-d : goal.returns-in_err-d
returns-in_err-d c =
    let p = err_from_is_err_and c.from_residual.result c.from_residual.ensures.1 in
    let counts = ap (λ (p : Tables). p.counts) c.read_first_lines.ensures.others ∙ c.requires.counts in
    let all = answering_rows _ (rows_refused c.in_err-d.ensures.first_read counts) in
    rw (p.1, p.2) (record { verdict_value = all.0; reads_rows = all.1 })

pub returns-in_err-steps : goal.returns-in_err-steps
returns-in_err-steps c =
    let p = err_from_is_err_and c.from_residual-in_err-steps.result c.from_residual-in_err-steps.ensures.1 in
    let counts =
    ap (λ (p : Tables). p.counts) c.read_transitions.ensures.others ∙ ap (λ (p : Tables). p.counts) c.read_first_lines.ensures.others ∙ c.requires.counts in
    let f = c.in_ok-d.ensures.first_read in
    let e = f.found in
    let all = answering_rows _ (rows_refused (c.in_err-steps.ensures.reads_steps f.start e.names _ e.held e.rest) counts) in
    rw (p.1, p.2) (record { verdict_value = all.0; reads_rows = all.1 })

pub returns-in_err-machines : goal.returns-in_err-machines
returns-in_err-machines c =
    let p = err_from_is_err_and c.from_residual-in_err-machines.result c.from_residual-in_err-machines.ensures.1 in
    let counts =
    ap (λ (p : Tables). p.counts) c.read_machines.ensures.others
    ∙ ap (λ (p : Tables). p.counts) c.read_transitions.ensures.others ∙ ap (λ (p : Tables). p.counts) c.read_first_lines.ensures.others ∙ c.requires.counts in
    let f = c.in_ok-d.ensures.first_read in
    let e = f.found in
    let t = c.in_ok-steps.ensures.reads_steps f.start e.names _ e.held e.rest in
    let u = c.in_err-machines.ensures.reads_machines f.start e.names t.steps _ (omega (arith, t.counted)) t.last t.rest in
    let all = answering_rows _ (rows_refused u counts) in
    rw (p.1, p.2) (record { verdict_value = all.0; reads_rows = all.1 })

pub returns : goal.returns
returns c =
    let fresh = c.requires.rows in
    let first = c.read_first_lines.ensures.others in
    let second = c.read_transitions.ensures.others in
    let third = c.read_machines.ensures.others in
    let f = c.in_ok-d.ensures.first_read in
    let e = f.found in
    let t = c.in_ok-steps.ensures.reads_steps f.start e.names _ e.held e.rest in
    let u = c.in_ok-machines.ensures.reads_machines f.start e.names t.steps _ (omega (arith, t.counted)) t.last t.rest in
    let lens =
    ap (λ (p : Tables). p.name_len) third ∙ ap (λ (p : Tables). p.name_len) second ∙ c.in_ok-d.ensures.lengths ∙ e.held.rows.lengths in
    let ats = ap (λ (p : Tables). p.name_at) third ∙ ap (λ (p : Tables). p.name_at) second ∙ e.placed in
    let before : rows_of_steps c.read_first_lines.new.plan ≡ no_steps =
    ap rows_of_steps first ∙ (λ i. transition_rows (fresh.fresh_source i) (fresh.fresh_event i) (fresh.fresh_target i)) in
    let unread : rows_of_machines c.read_transitions.new.plan ≡ no_machines =
    ap rows_of_machines second ∙ ap rows_of_machines first ∙ (λ i. machine_rows (fresh.fresh_sizes i) (fresh.fresh_duplicate i) (fresh.fresh_place i)) in
    let all =
    answering_rows _
    (rows_passed f.start e.names t.steps u.machines f.initial e.held.rows.counted lens ats before unread u.whole t.counted (ap rows_of_steps third ∙ t.rows)
    u.counted u.rows) in
    record { verdict_value = all.0; reads_rows = all.1 }
