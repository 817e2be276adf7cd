-- Name, by its ways out.
use Prim.Native.Nat.{ℕ, ◌+◌, ◌<◌, ◌≤◌}
use native.Mathlib.Omega.{arith}
use borrow.Author.Tests.{lt-ltb, le-ltb}
use mathlib.Core.Path.{◌≡◌, refl, ap, sym, ◌∙◌}
use mathlib.Core.List.{List, []}
use lib.ListN.{length, get_or}
use Rattle.model.specs.declared.Refusal as D
use Rattle.model.specs.declared.Refusal.TheVariants.{UnknownEvent}
use Rattle.model.specs.Cases.{tabled}
use Rattle.model.specs.Refusal.{refused, passed, refusal_of}
use Rattle.model.specs.Text.{Input}
use Rattle.model.specs.Services.{as_far_as7, name, handed_back, name_refusal}
use Rattle.std.specs.Prelude.{Ok, Err}
use Rattle.rows.specs.declared.Tables.{Tables}
use Rattle.rows.specs.Tables.{verdict_refusal}
use Rattle.rows.specs.Told.{entry, name_of}
use Rattle.rows.proofs.Telling.{told_events}
use Rattle.rows.proofs.Names.{name_inside, length_name}
use Rattle.stages.specs.Stages.{Held}
use Rattle.rows.proofs.Verdicts.{refused_as}
use Rattle.name_service.specs.Parts.{part_refusal, part_in, Named}

module _ (s : List ℕ) (e : ℕ) where
  -- Name is refused
  names_none : (why : D.Refusal) → name s e ≡ refused (tabled why) → Named s e (Err why)
  unfolding name_refusal handed_back part_refusal part_in
  names_none why q = record { verdict = sym (ap refusal_of q); begins = rw q; ends = rw q; inside = omega arith }

  -- the text is refused
  pub refused_text : {why : D.Refusal} → verdict_refusal (Err why) ≡ refusal_of (as_far_as7 s) → Named s e (Err why)
  unfolding name
  refused_text {why} h =
      let z : as_far_as7 s ≡ refused (tabled why) = refused_as h refl in
      names_none why (rw z)

-- the text is past 7
module _ {s : List ℕ} {p : Tables} (h : Held (as_far_as7 s) s p) (e : ℕ) where
  abbrev value : Input
  value = h.value

  -- the rows count the value's events
  counted : p.counts.events ≡ length value.names
  counted = told_events h.told

  -- the event is not declared
  pub unknown : p.counts.events ≤ e → Named s e (Err (UnknownEvent 0))
  unfolding name tabled
  unknown l = names_none s e (UnknownEvent 0) (rw (h.passes, le-ltb e (length value.names) (rw counted at l)))

  -- the event is declared
  module _ (l : e < p.counts.events) where
    abbrev from : ℕ
    from = entry p.name_at e

    abbrev size : ℕ
    size = entry p.name_len e

    -- its name lies in the text
    pub inside_text : from + size ≤ length s
    inside_text = name_inside s p.name_at p.name_len h.names e l

    -- the value has it too
    known : e < length value.names
    known = rw counted at l

    -- the row has its length
    name_size : size ≡ length (get_or value.names e [])
    unfolding name_of
    name_size = sym (length_name s p.name_at p.name_len p.counts.events e h.names l) ∙ ap length (h.told.name e known)

    -- the model's answer
    name_is : name s e ≡ passed (record { from = from; size = size })
    unfolding name
    name_is = rw (h.passes, lt-ltb e (length value.names) known, h.told.name_place e known, name_size)

    -- the code's answer
    pub names_it : Named s e (Ok (record { from = from; end = from + size }))
    unfolding name_refusal handed_back part_refusal part_in
    names_it = record { verdict = rw name_is; begins = rw name_is; ends = rw name_is; inside = inside_text }
