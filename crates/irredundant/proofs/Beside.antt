-- The machines beside one of them, those before it and those kept after it: what the rows say of them is what the model says.
use Prim.Native.Nat.{ℕ, zero, suc, ◌+◌, ◌*◌, ◌<◌, ◌≤◌}
use native.Mathlib.Omega.{arith}
use mathlib.Core.Path.{◌≡◌, refl, sym, ap, ◌∙◌}
use mathlib.Core.Bool.{Bool, true, false, not, ◌&&◌, ◌||◌, and_comm, and-false, or_comm, false≢true}
use mathlib.Core.List.{List, [], ◌∷◌, ◌++◌}
use mathlib.Core.Option.{Option, none, some, some-ne-none}
use borrow.Author.Tests.{lt-ltb}
use lib.Dec.{T}
use lib.ListN.{length, get_or, take, drop, replicate, length-append, get_or-replicate}
use lib.Seq.{length-take-le}
use Rattle.model.specs.Lists.{At, exists, every, is_some, lowest}
use Rattle.model.specs.Refusal.{Refusal}
use Rattle.model.specs.TransitionSystem.{TransitionSystem}
use Rattle.model.specs.Product.{in_alphabet, effective}
use Rattle.model.specs.Machine.{Machine, Decomposition, ready, common, cover_refusal, select, suffices, move}
use Rattle.model.proofs.Laws.{T_true, and_l, and_r, is_some_none}
use Rattle.model.proofs.ListLaws.{exists_append, every_append, not_empty}
use Rattle.state_set.specs.Rows.{member_at}
use Rattle.state_set.proofs.Sets.{full_word}
use Rattle.state_set.proofs.Rows.{full_row}
use Rattle.closure.specs.Covers.{on_machine, on_some, meets, SetsTold}
use Rattle.closure.proofs.Selection.{covers_all, covers_each}
use Rattle.closure.proofs.Cover.{on_machine_lem, on_first, machine_ready, common_first, meets_past, common_past}
use Rattle.irredundant.specs.Kept.{none_below, Below, Adds, covered_without, redundant}
use Rattle.irredundant.proofs.Covered.{all_pass, each_passes}

pub select_without : (k : ℕ) (marks : List Bool) (ms : Decomposition) → k < length ms
    → select (replicate k true ++ (false ∷ marks)) ms ≡ take k ms ++ select marks (drop (suc k) ms)
unfolding select
select_without k marks [] l = absurd (omega arith)
select_without zero marks (m ∷ ms) l = refl
select_without (suc k) marks (m ∷ ms) l = ap (λ (ds : Decomposition). m ∷ ds) (select_without k marks ms (omega arith))

-- ---- the rows of kept machines
-- which events are on the machines, and which states are common to their pre-places there
pub record Tells (ts : TransitionSystem) (ds : Decomposition) (above : List ℕ) (onAbove : List Bool) : Type 0 where
  pub on : (e : ℕ) → e < ts.events → get_or onAbove e false ≡ effective (move ts) ds e
  pub all : (e i : ℕ) → e < ts.events → i < ts.states → member_at above e i ≡ common ts ds e i
  pub past : (e i : ℕ) → e < ts.events → ts.states ≤ i → get_or onAbove e false ≡ true → member_at above e i ≡ false

pub tells_none : (ts : TransitionSystem) → ts.states ≤ 256 → ts.events ≤ 64 → Tells ts [] (replicate 256 full_word) (replicate 64 false)
unfolding effective common exists every
tells_none ts small few =
    record {
      on = λ e l. off e l;
      all = λ e i l b. full_row 256 e i (omega arith) ∙ lt-ltb i 256 (omega arith);
      past = λ e i l b h. absurd (false≢true (sym (off e l) ∙ h));
    }
  where
    off : (e : ℕ) → e < ts.events → get_or (replicate 64 false) e false ≡ false
    off e l = get_or-replicate 64 e false false (omega arith)

module _ {ts : TransitionSystem} {ms : Decomposition} {pre post sets excited : List ℕ} (told : SetsTold ts ms pre post sets excited) (k : ℕ)
    {above : List ℕ} {onAbove : List Bool} {ds : Decomposition} (rows : Tells ts ds above onAbove) where
  -- one machine more
  pub tells_more : {above2 : List ℕ} {onAbove2 : List Bool} (m : Machine) → At ms k m
      → Adds sets pre k ts.events above onAbove above2 onAbove2 → Tells ts (m ∷ ds) above2 onAbove2
  unfolding effective common exists every
  tells_more {above2} {onAbove2} m a add =
      record {
        on = λ e l. add.on e l ∙ rw (rows.on e l, on_machine_lem told.moves e k m l a) (or_comm (effective (move ts) ds e) (in_alphabet (move ts) e m));
        all = λ e i l b. add.common e i l ∙ rw (rows.all e i l b, machine_ready told e k i m l b a) (and_comm (common ts ds e i) (ready ts e i m));
        past = λ e i l b h. add.common e i l ∙ outside e i l b (get_or onAbove e false) refl (sym (add.on e l) ∙ h);
      }
    where
      outside : (e i : ℕ) → e < ts.events → ts.states ≤ i → (t : Bool) → get_or onAbove e false ≡ t
          → (get_or onAbove e false || on_machine pre e k) ≡ true → (member_at above e i && meets sets pre e k i) ≡ false
      outside e i l b true q h = rw (rows.past e i l b q)
      outside e i l b false q h =
          rw (meets_past told e k i m a b (sym (ap (λ (t : Bool). t || on_machine pre e k) q) ∙ h)) (and-false (member_at above e i))

  -- ---- the machines before machine k and these
  module _ {below : List ℕ} (low : k < length ms) (before : Below sets pre (length ms) ts.events below) where
    abbrev beside : Decomposition
    beside = take k ms ++ ds

    abbrev on_beside : ℕ → Bool
    on_beside e = get_or onAbove e false || on_some pre e k

    abbrev in_all : ℕ → ℕ → Bool
    in_all e i = member_at below (e * 16 + k) i && member_at above e i

    on_same : (e : ℕ) → e < ts.events → on_beside e ≡ effective (move ts) beside e
    unfolding effective
    on_same e l =
        rw (rows.on e l, on_first told.moves e k l (omega arith), exists_append (in_alphabet (move ts) e) (take k ms) ds)
        (or_comm (effective (move ts) ds e) (exists (in_alphabet (move ts) e) (take k ms)))

    in_all_same : (e i : ℕ) → e < ts.events → i < ts.states → in_all e i ≡ common ts beside e i
    unfolding common
    in_all_same e i l b =
        rw (before.common k e i low l, common_first told e i k l b (omega arith), rows.all e i l b, every_append (ready ts e i) (take k ms) ds)

    in_all_past : (e i : ℕ) → e < ts.events → ts.states ≤ i → on_beside e ≡ true → in_all e i ≡ false
    in_all_past e i l b o = go (get_or onAbove e false) refl
      where
        go : (t : Bool) → get_or onAbove e false ≡ t → in_all e i ≡ false
        go true q = rw (rows.past e i l b q) (and-false (member_at below (e * 16 + k) i))
        go false q =
            rw (before.common k e i low l, common_past told e i k b (omega arith) (sym (ap (λ (t : Bool). t || on_some pre e k) q) ∙ o))

    abbrev lowest_open : ℕ → Option ℕ
    lowest_open e = lowest (λ i. in_all e i && not (member_at excited e i)) 256

    abbrev covered : ℕ → Bool
    covered = covered_without pre below above onAbove excited k

    covered_of : (e : ℕ) → (on_beside e ≡ true) × (lowest_open e ≡ none) → covered e ≡ true
    unfolding covered_without none_below is_some
    covered_of e h = rw (h.0, h.1)

    of_covered : (e : ℕ) → covered e ≡ true → (on_beside e ≡ true) × (lowest_open e ≡ none)
    unfolding covered_without none_below
    of_covered e q =
        let t : T (on_beside e && not (is_some (lowest_open e))) = rw q tt in (
          T_true (on_beside e) (and_l (on_beside e) (not (is_some (lowest_open e))) t),
          is_some_none (lowest_open e) (and_r (on_beside e) (not (is_some (lowest_open e))) t),
        )

    -- they pass 11 and 12
    passes_same : none_below (λ e. not (covered e)) ts.events ≡ not (is_some (cover_refusal ts beside))
    unfolding is_some
    passes_same = go (cover_refusal ts beside) refl
      where
        rest : Bool
        rest = none_below (λ e. not (covered e)) ts.events

        some_open : (r : Refusal) → cover_refusal ts beside ≡ some r → (t : Bool) → rest ≡ t → rest ≡ false
        some_open r q false w = w
        some_open r q true w =
            absurd (some-ne-none r (sym q
            ∙ covers_all ts beside excited told.excitations told.states told.events on_beside in_all on_same in_all_same in_all_past
            (λ e l. of_covered e (each_passes covered ts.events w e l))))

        go : (o : Option Refusal) → cover_refusal ts beside ≡ o → rest ≡ not (is_some o)
        go none q =
            all_pass covered ts.events (λ e l. covered_of e
            (covers_each ts beside excited told.excitations told.states told.events on_beside in_all on_same in_all_same in_all_past q e l))
        go (some r) q = some_open r q rest refl

    -- and they are not none, where they are counted
    pub suffices_same : {others : ℕ} → others ≡ k + length ds → redundant pre below above onAbove excited others k ts.events ≡ suffices ts beside
    unfolding suffices
    suffices_same v = rw (passes_same, sym (not_empty beside), length-append (take k ms) ds, length-take-le k ms (omega arith), v)
