-- Merge, by its ways out.
use Prim.Native.Nat.{ℕ, ◌+◌, ◌*◌, ◌<◌}
use native.Mathlib.Omega.{arith}
use mathlib.Core.Path.{◌≡◌, refl, ap, sym, ◌∙◌, subst}
use mathlib.Core.List.{List, []}
use mathlib.Core.Option.{some, none-ne-some, some-injective}
use Rattle.std.specs.Prelude.{Result, Ok, Err}
use Rattle.model.specs.declared.Refusal as D
use Rattle.model.specs.Cases.{tabled}
use Rattle.model.specs.Lists.{At}
use Rattle.model.specs.Refusal.{refused, passed}
use Rattle.model.specs.TransitionSystem.{TransitionSystem}
use Rattle.model.specs.Product.{Move}
use Rattle.model.specs.Machine.{Machine, place_of, move}
use Rattle.model.specs.Merging.{merged, merged_input}
use Rattle.model.specs.Text.{Input, system}
use Rattle.model.specs.Sheet.{sheet}
use Rattle.model.specs.Services.{as_far_as12, lend, merge}
use Rattle.model.proofs.Positions.{below_at, at_mem}
use Rattle.model.proofs.Demands.{Left10, left10, demand2}
use Rattle.model.proofs.Moves.{MoveView, moves, stays, move_view, move_of}
use Rattle.rows.specs.declared.Counts.{Counts}
use Rattle.rows.specs.declared.Tables.{Tables}
use Rattle.rows.specs.Tables.{verdict_refusal, tables_in}
use Rattle.rows.specs.Told.{entry, system_of}
use Rattle.rows.proofs.Telling.{told_events, told_initial}
use Rattle.rows.proofs.Names.{told_names}
use Rattle.sheet.specs.Rows.{SheetReady}
use Rattle.sheet.specs.Written.{row_sheet}
use Rattle.sheet.proofs.Told.{lines_sheet}
use Rattle.closure.specs.Covers.{CountsBounded}
use Rattle.merging.proofs.Barring.{place_low}
use Rattle.merging.proofs.Telling.{move_on_lem}
use Rattle.merging.specs.Merges.{MergeRows, SheetTold, SheetRows, HeldPast10, Merges}
use Rattle.stages.specs.Stages.{Past10}
use Rattle.stages.proofs.Stages.{past_10}
use Rattle.answers.specs.Answers.{answered}
use Rattle.check_service.specs.Handed.{HandsOver}
use Rattle.merge_service.specs.Handed.{NamesHeld, MergedOver}

-- refused by 1 to 12
pub merge_refused : (s out : List ℕ) (why : D.Refusal) → as_far_as12 s ≡ refused (tabled why)
    → (answered (Err why) ≡ (merge s out).answer) × (out ≡ (merge s out).left)
unfolding answered merge lend
merge_refused s out why e = rw e (refl, refl)

-- ---- past 10

-- what a sheet is made of is at hand
pub sheet_ready : {s : List ℕ} {c : Counts} {ats lens place2 sizes2 pre2 post2 : List ℕ} → CountsBounded c → NamesHeld s c ats lens → SheetRows c place2 sizes2 pre2 post2 → SheetReady s c ats lens sizes2 place2 pre2 post2
sheet_ready b n r = (
  record {
    states = b.states;
    initial = n.initial;
    events = b.events;
    names = n.names;
    machines = b.machines;
    place_counts = r.counts;
    lens_size = n.lens_size;
    sizes_size = r.sizes_size;
    places_size_lem = r.place_size_lem;
  },
  n.ats_size,
  r.moves,
  n.inside,
)

module _ (s : List ℕ) (c : Counts) (ats lens excited place sizes pre post out : List ℕ) where
  -- 11 or 12
  pub cover_refused : {r : Result (Unit {0}) D.Refusal} {why : D.Refusal} {place2 sizes2 pre2 post2 : List ℕ} → Merges c place sizes pre post excited r place2 sizes2 pre2 post2 → r ≡ Err why
      → MergedOver s c ats lens excited place sizes pre post out (Err why) out
  unfolding as_far_as12 verdict_refusal
  cover_refused {r} {why} m q v h e = merge_refused s out why (rw (h.passes, sym (m.judges s v h), q))

  -- the merged split's sheet
  pub handed_over : {place2 sizes2 pre2 post2 left : List ℕ} {d : Result (Unit {0}) D.Refusal} {u : Unit {0}} (r : Result ℕ D.Refusal) → Merges c place sizes pre post excited d place2 sizes2 pre2 post2 → d ≡ Ok u
      → HandsOver s c ats lens sizes2 place2 pre2 post2 out r left → MergedOver s c ats lens excited place sizes pre post out r left
  unfolding as_far_as12 verdict_refusal merge merged_input
  handed_over {place2} {sizes2} {pre2} {post2} {left} {d} {u} r m q w v h names =
      rw (h.passes, sym (m.judges s v h), q) (subst (λ (x : List ℕ). (answered r ≡ (lend (passed x) out).answer) × (left ≡ (lend (passed x) out).left)) told (w [] [] [] []))
    where
      t : SheetTold v (merged (system v) v.machines) place2 sizes2 pre2 post2
      t = m.tells s v h (ap verdict_refusal q)

      told : row_sheet s (tables_in c ats lens [] [] [] sizes2 [] place2) pre2 post2 ≡ sheet (merged_input v)
      told =
          lines_sheet s (record { states = v.states; initial = v.initial; names = v.names; transitions = v.transitions; machines = merged (system v) v.machines })
          (tables_in c ats lens [] [] [] sizes2 [] place2) pre2 post2
          (record {
            counted = h.machines ∙ sym t.as_many;
            events = h.events;
            places = t.counts;
            start = λ k n a. rw h.initial (t.starts k n a);
            moves = t.moves;
          })
          names

-- ---- what a text that is past 10 leaves of the rows

module _ {s : List ℕ} {p : Tables} {pre post excited : List ℕ} (k : Past10 s p pre post excited) where
  abbrev value : Input
  value = k.held.value

  left : Left10 k.held.value
  left = left10 s k.held.value (((demand2 s).as_far_as_10.passes k.held.value).0 (past_10 k))

  pub held_past_10 : HeldPast10 s k.held.value p.counts p.place p.sizes pre post excited
  unfolding system_of
  held_past_10 =
      record {
        passes = past_10 k;
        states = ap (λ (x : TransitionSystem). x.states) k.held.told.tells_system;
        initial = told_initial k.held.told;
        events = told_events k.held.told;
        machines = k.held.told.tells_machines.counted;
        counts = λ j m a. (k.held.told.tells_machines.machine j m a).places;
        cover = k.cover;
      }

  -- the number of a place is below the count of places, which is at most 64
  low : (j : ℕ) (m : Machine) (u : ℕ) → At value.machines j m → j < p.counts.machines → u < value.states → place_of m u < 64
  low j m u a l h =
      omega (
        arith,
        place_low (system value) m (left.good m (at_mem value.machines j m a)) u h,
        (k.held.told.tells_machines.machine j m a).places,
        k.held.bounds.sizes j l,
      )

  post_low : (j e : ℕ) (m : Machine) → At value.machines j m → j < p.counts.machines → (v : Move) → move (system value) m e ≡ some v → v.post < 64
  post_low j e m a l v q = go (move_view (system value) m e)
    where
      go : MoveView (system value) m e → v.post < 64
      go (stays r st) = absurd (none-ne-some v (sym r ∙ q))
      go (moves t r i h c) =
          subst (λ (w : Move). w.post < 64) (some-injective (move_of m t) v (sym r ∙ q)) (low j m t.target a l (left.left.within.target t i))

  pub merge_rows : MergeRows p.counts p.place p.sizes pre post
  merge_rows =
      record {
        initial = omega (arith, k.held.bounds.initial, k.held.bounds.states);
        place_size_lem = k.held.sized.checked.crossed.places;
        sizes_size = k.held.sized.place_counts;
        moves = k.cover.moves.rows;
        counts = k.held.bounds.sizes;
        starts = λ j l. let (m, a) = machine j l in start j m a l;
        ends = record { post_place = λ j e l h q. let (m, a) = machine j l in end j e m a l h q };
      }
    where
      machine : (j : ℕ) → j < p.counts.machines → (m : Machine) × At value.machines j m
      machine j l = below_at value.machines j (omega (arith, l, held_past_10.machines))

      start : (j : ℕ) (m : Machine) → At value.machines j m → j < p.counts.machines → entry p.place (j * 256 + p.counts.initial) < 64
      start j m a l =
          rw held_past_10.initial
          (subst (λ (q : ℕ). q < 64) (sym (k.cover.places.each j value.initial m a left.left.within.initial)) (low j m value.initial a l left.left.within.initial))

      end : (j e : ℕ) (m : Machine) → At value.machines j m → j < p.counts.machines → e < p.counts.events → entry pre (e * 16 + j) < 64 → entry post (e * 16 + j) < 64
      end j e m a l h q =
          post_low j e m a l (record { pre = entry pre (e * 16 + j); post = entry post (e * 16 + j) })
          (sym (k.cover.moves.move j e m a (omega (arith, h, held_past_10.events))) ∙ move_on_lem pre post j e q)

  pub names_held : NamesHeld s p.counts p.name_at p.name_len
  names_held =
      record {
        initial = k.held.bounds.initial;
        names = k.held.bounds.names;
        lens_size = k.held.sized.name_lengths;
        ats_size = k.held.sized.name_places;
        inside = k.held.names;
      }

  -- what is answered of the text that the rows hold is what Merge answers
  pub merge_past : (out left_over : List ℕ) (r : Result ℕ D.Refusal) → MergedOver s p.counts p.name_at p.name_len excited p.place p.sizes pre post out r left_over
      → (answered r ≡ (merge s out).answer) × (left_over ≡ (merge s out).left)
  merge_past out left_over r w = w k.held.value held_past_10 (told_names s k.held.value p k.held.told)
