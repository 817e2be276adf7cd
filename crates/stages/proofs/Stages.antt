-- What the code knows of a text once it is read, once it is past 7, past 10, and past 12.
use Prim.Native.Nat.{ℕ}
use native.Mathlib.Omega.{arith}
use mathlib.Core.Path.{◌≡◌, refl, ap, sym, subst, ◌∙◌}
use mathlib.Core.List.{List}
use mathlib.Core.Option.{none, some}
use lib.ListN.{length, replicate, length-replicate}
use lib.Seq.{length-sets}
use Rattle.model.specs.declared.Refusal as D
use Rattle.model.specs.Cases.{tabled}
use Rattle.model.specs.Refusal.{refused, passed, refusal_of}
use Rattle.model.specs.TransitionSystem.{TransitionSystem, system_refusal}
use Rattle.model.specs.Machine.{Decomposition, machines_refusal, cover_refusal}
use Rattle.model.specs.Text.{Input, system, read}
use Rattle.model.specs.Services.{as_far_as7, as_far_as10, as_far_as12}
use Rattle.model.proofs.Laws.{or_else_none}
use Rattle.std.specs.Prelude.{Result, Ok, Err}
use Rattle.rows.specs.declared.Tables.{Tables}
use Rattle.rows.specs.declared.Moves.{Moves}
use Rattle.rows.specs.Tables.{verdict_refusal, tables_of, tables_in, NoMoves}
use Rattle.rows.specs.declared.Counts.{Counts}
use Rattle.rows.specs.Told.{system_of, MachinesTold}
use Rattle.reader.specs.Lent.{ReadsRows}
use Rattle.rows.specs.Bounded.{Bounded, NamesInside}
use Rattle.rows.proofs.Bounds.{bounded, names_inside}
use Rattle.rows.proofs.Fronts.{front_length}
use Rattle.rows.proofs.Telling.{told_transitions}
use Rattle.transition_system.specs.Sets.{system_rows}
use Rattle.regions.specs.Regions.{rows_of}
use Rattle.rows.specs.Sizes.{Sized}
use Rattle.closure.specs.Covers.{CountsBounded, CoverTold, CoverJudged}
use Rattle.stages.specs.Order.{refusal_to10, CheckedTo10}
use Rattle.rows.specs.Rows.{row}
use Rattle.stages.specs.Stages.{Held, ReadAsFarAs7, Fresh, Past10, ReadAsFarAs10, Judged, ReadAsFarAs12}
use Rattle.rows.proofs.Verdicts.{refuses, lets_pass, was_passed, refused_as}
use Rattle.stages.proofs.Order.{no_excitations}
use Rattle.stages.proofs.Checking.{unread_7, refusal_7, passed_7, unread_10, refusal_10, passed_10, refused_12, refusal_12, passed_12}

-- ---- what the checks ask of the rows

-- names and sizes are of no account to the checks
pub rows_bounded : {p : Tables} → Bounded p → Bounded (rows_of p.counts p.source p.event p.target p.duplicate p.place)
rows_bounded b =
    record {
      states = b.states;
      initial = b.initial;
      events = b.events;
      names = λ e l. omega arith;
      transitions = b.transitions;
      source = b.source;
      event = b.event;
      target = b.target;
      machines = b.machines;
      sizes = λ k l. omega arith;
    }

-- the rows that a text fills have their sizes
length_row : (n x : ℕ) (xs : List ℕ) → length (row n x xs) ≡ n
unfolding row
length_row n x xs = length-sets {A = ℕ} (replicate n x) 0 xs ∙ length-replicate {A = ℕ} n x

filled_sized : (s : List ℕ) (v : Input) → Sized (tables_of s v)
unfolding tables_of
filled_sized s v =
    record {
      checked =
          record {
            crossed = record { sources = length_row 1024 0 _; targets = length_row 1024 0 _; places = length_row 4096 255 _ };
            events = length_row 1024 0 _;
            duplicates = length_row 16 256 _;
          };
      name_places = length_row 64 0 _;
      name_lengths = length_row 64 0 _;
      place_counts = length_row 16 0 _;
    }

-- the text passes 1 to 3, and these rows are filled
module _ {s : List ℕ} {r : Result (Unit {0}) D.Refusal} {u : Unit {0}} {c : Counts} {ats lens sources events targets sizes duplicates places : List ℕ} (h : verdict_refusal r ≡ refusal_of (read s)) (e : r ≡ Ok u)
    (t : ReadsRows s c ats lens sources events targets sizes duplicates places) where
  pub rows_held : Held (read s) s (tables_in c ats lens sources events targets sizes duplicates places)
  rows_held =
      let (v, reads) = was_passed (read s) (sym h ∙ lets_pass e) in
      let q = t.tables v reads in
      record {
        value = v;
        passes = reads;
        told = t.told v reads;
        bounds = subst Bounded (sym q) (bounded s v reads);
        sized = subst Sized (sym q) (filled_sized s v);
        names = subst (λ (p : Tables). NamesInside s p.name_at p.name_len p.counts.events) (sym q) (names_inside s v reads);
      }

-- ---- what 4 to 7 answer

-- refused by 1 to 3
pub refused_to_3 : {s : List ℕ} {r : Result (Unit {0}) D.Refusal} {p : Tables} {why : D.Refusal} → verdict_refusal r ≡ refusal_of (read s) → r ≡ Err why → ReadAsFarAs7 s r p
unfolding verdict_refusal
refused_to_3 {s} {why = why} h e =
    let q = ap verdict_refusal e in
    record { verdict = q ∙ sym (unread_7 s (tabled why) (sym h ∙ q)); held = λ n. refuses why (sym q ∙ n) }

module _ {s : List ℕ} {p : Tables} (h : Held (read s) s p) where
  -- what is read and passes 4 to 7 is held as far as 7
  held_7 : system_refusal (system h.value) ≡ none → Held (as_far_as7 s) s p
  held_7 n = record { value = h.value; passes = passed_7 s h.value h.passes n; told = h.told; bounds = h.bounds; sized = h.sized; names = h.names }

  -- the verdict on the rows' transition system is that on the text
  pub judged_7 : (r : Result (Unit {0}) D.Refusal) → verdict_refusal r ≡ system_refusal (system_of (system_rows p.counts p.source p.event p.target))
      → ReadAsFarAs7 s r p
  unfolding system_of
  judged_7 r e =
      let q : verdict_refusal r ≡ system_refusal (system h.value) = e ∙ ap system_refusal h.told.tells_system in
      record { verdict = q ∙ sym (refusal_7 s h.value h.passes); held = λ n. held_7 (sym q ∙ n) }

-- ---- what 4 to 10 answer

-- refused by 1 to 3
pub refused_to_3_10 : {s : List ℕ} {p : Tables} {r : Result (Unit {0}) D.Refusal} {why : D.Refusal} {pre post excited : List ℕ} → verdict_refusal r ≡ refusal_of (read s) → r ≡ Err why
    → ReadAsFarAs10 s r p pre post excited
unfolding verdict_refusal
refused_to_3_10 {s} {why = why} h e =
    let q = ap verdict_refusal e in
    record { verdict = q ∙ sym (unread_10 s (tabled why) (sym h ∙ q)); past = λ n. refuses why (sym q ∙ n) }

-- the rows as they are made
pub fresh : Fresh (replicate 1024 255) (replicate 1024 0) (replicate 256 0)
fresh = record { moves = record { pre_size = refl; post_size = refl }; excitations = no_excitations }

pub fresh_moves : {m : Moves} → NoMoves m → Fresh m.pre m.post (replicate 256 0)
fresh_moves h = rw (h.pre, h.post) fresh

module _ {s : List ℕ} {p : Tables} (h : Held (read s) s p) where
  abbrev machines : Decomposition
  machines = h.value.machines

  -- the rows give the value's transition system
  same : system_of p ≡ system h.value
  same = h.told.tells_system

  machines_told : MachinesTold (system_of p) p machines
  machines_told = subst (λ (t : TransitionSystem). MachinesTold t p machines) (sym same) h.told.tells_machines

  -- the verdict on what the rows tell is that on the text
  pub judged_10 : (r : Result (Unit {0}) D.Refusal) {pre post excited : List ℕ} → CheckedTo10 p pre post excited r → ReadAsFarAs10 s r p pre post excited
  judged_10 r {pre} {post} {excited} t =
      let q = t.refusal machines machines_told ∙ ap (λ (t : TransitionSystem). refusal_to10 t machines) same in
      record {
        verdict = q ∙ sym (refusal_10 s h.value h.passes);
        past = λ n.
            record {
              held = h;
              passes = sym q ∙ n;
              cover = subst (λ (t : TransitionSystem). CoverTold t machines pre post p.place excited) same (t.rows machines machines_told n);
            };
      }

module _ {s : List ℕ} {r : Result (Unit {0}) D.Refusal} {p : Tables} {pre post excited : List ℕ} (t : ReadAsFarAs10 s r p pre post excited) where
  pub refused_text_10 : {why : D.Refusal} → r ≡ Err why → as_far_as12 s ≡ refused (tabled why)
  unfolding verdict_refusal
  refused_text_10 {why} e = refused_as {r = Err why} (sym (refused_12 s (tabled why) (sym t.verdict ∙ ap verdict_refusal e))) refl

  pub past_text_10 : {u : Unit {0}} → r ≡ Ok u → Past10 s p pre post excited
  past_text_10 e = t.past (lets_pass e)

  -- refused by 1 to 10
  pub refused_to_10 : {why : D.Refusal} → r ≡ Err why → ReadAsFarAs12 s r p pre post excited
  unfolding verdict_refusal
  refused_to_10 {why} e =
      let q = ap verdict_refusal e in
      record { verdict = q ∙ sym (refused_12 s (tabled why) (sym t.verdict ∙ q)); judged = λ n. refuses why (sym q ∙ n) }

module _ {s : List ℕ} {p : Tables} {pre post excited : List ℕ} (k : Past10 s p pre post excited) where
  abbrev value : Input
  value = k.held.value

  pub past_10 : as_far_as10 s ≡ passed value
  past_10 = passed_10 s value k.held.passes k.passes

  pub machines_pass : machines_refusal (system value) 0 value.machines ≡ none
  unfolding refusal_to10
  machines_pass = (or_else_none _ _ k.passes).1

  -- what 11 and 12 ask for of the counts, and their verdict on the text
  pub counts_bounded : CountsBounded p.counts
  counts_bounded = let b = k.held.bounds in record { states = b.states; events = b.events; machines = b.machines }

  pub cover_refusal_lem : {r : Result (Unit {0}) D.Refusal} → CoverJudged p.counts pre p.place excited r → verdict_refusal r ≡ cover_refusal (system value) value.machines
  unfolding system_of
  cover_refusal_lem j =
      let told = k.held.told in
      j.judges (system value) value.machines post k.cover (sym (ap (λ (t : TransitionSystem). t.states) told.tells_system))
      (sym (ap (λ (t : TransitionSystem). t.events) told.tells_system)) (sym told.tells_machines.counted)

  pub covered_12 : cover_refusal (system value) value.machines ≡ none → as_far_as12 s ≡ passed value
  covered_12 n = passed_12 s value past_10 n

  pub refused_cover : (why : D.Refusal) → cover_refusal (system value) value.machines ≡ some (tabled why) → as_far_as12 s ≡ refused (tabled why)
  unfolding verdict_refusal
  refused_cover why q = refused_as {r = Err why} (sym q ∙ sym (refusal_12 s value past_10)) refl

  pub judged_12 : (r : Result (Unit {0}) D.Refusal) → CoverJudged p.counts pre p.place excited r → ReadAsFarAs12 s r p pre post excited
  judged_12 r j =
      record {
        verdict = cover_refusal_lem j ∙ sym (refusal_12 s value past_10);
        judged = λ n. record { past = k; covered = sym (cover_refusal_lem j) ∙ n };
      }

module _ {s : List ℕ} {r : Result (Unit {0}) D.Refusal} {p : Tables} {pre post excited : List ℕ} (t : ReadAsFarAs12 s r p pre post excited) where
  pub refused_text : {why : D.Refusal} → r ≡ Err why → as_far_as12 s ≡ refused (tabled why)
  refused_text e = refused_as t.verdict e

  pub past_text : {u : Unit {0}} → r ≡ Ok u → Judged s p pre post excited
  past_text e = t.judged (lets_pass e)

pub past_12 : {s : List ℕ} {p : Tables} {pre post excited : List ℕ} (j : Judged s p pre post excited) → as_far_as12 s ≡ passed j.past.held.value
past_12 j = covered_12 j.past j.covered

-- the rows count the value's transitions
pub counted : {s : List ℕ} {p : Tables} (h : Held (as_far_as7 s) s p) → p.counts.transitions ≡ length h.value.transitions
counted {p = p} h = sym (front_length p.source p.event p.target p.counts.transitions) ∙ ap length (told_transitions h.told)
