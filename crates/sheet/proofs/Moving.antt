-- The moves on a machine: event by event, how long they are and how they are written.
use Prim.Native.Nat.{ℕ, ◌+◌, ◌*◌, ◌≤◌, ◌<◌}
use native.Mathlib.Numerals.{add-one}
use native.Mathlib.Omega.{arith}
use mathlib.Core.Path.{◌≡◌, ap, ◌∙◌}
use mathlib.Core.Logic.{◌⊎◌, inl, inr}
use mathlib.Core.List.{List, [], ◌++◌, map, flat_map, append-nil}
use mathlib.Core.Option.{Option, none, some}
use lib.Dec.{ltb, lt→ltb}
use lib.ListN.{length, get_or, length-append}
use Rattle.model.specs.Bytes.{Name}
use Rattle.model.specs.Product.{Move}
use Rattle.model.specs.Sheet.{add_move, move_bytes, written_move, named}
use Rattle.model.proofs.Laws.{cond_true, cond_false, not_below, order}
use Rattle.model.proofs.ListLaws.{map_append, flat_map_append}
use Rattle.rows.specs.Told.{entry}
use Rattle.rows.proofs.Names.{name_in, name_at_lem}
use Rattle.regions.specs.Moves.{move_at}
use Rattle.writers.proofs.Writing.{within}
use Rattle.rows.specs.Names.{names_in}
use Rattle.sheet.specs.Written.{row_moves, moves_bytes}
use Rattle.sheet.specs.Within.{WritesWithin}
use Rattle.sheet.proofs.Within.{within_none, within_append}

-- one event more
module _ (pre post : List ℕ) (k n : ℕ) where
  move_none : 64 ≤ entry pre (n * 16 + k) → move_at pre post k n ≡ none
  unfolding move_at
  move_none h = cond_false (ltb (entry pre (n * 16 + k)) 64) _ none (not_below (entry pre (n * 16 + k)) 64 h)

  move_some : entry pre (n * 16 + k) < 64 → move_at pre post k n ≡ some (record { pre = entry pre (n * 16 + k); post = entry post (n * 16 + k) })
  unfolding move_at
  move_some h = cond_true (ltb (entry pre (n * 16 + k)) 64) _ none (lt→ltb (entry pre (n * 16 + k)) 64 h)

  module _ (names : List Name) where
    pub moves_skip : 64 ≤ entry pre (n * 16 + k) → moves_bytes names pre post k (n + 1) ≡ moves_bytes names pre post k n
    unfolding moves_bytes row_moves add_move
    moves_skip h = rw (add-one n) (ap (λ (o : Option Move). flat_map written_move (map (named names) (add_move n o (row_moves pre post k n)))) (move_none h))

    pub moves_add : entry pre (n * 16 + k) < 64
        → moves_bytes names pre post k (n + 1) ≡ moves_bytes names pre post k n ++ move_bytes (get_or names n []) (entry pre (n * 16 + k)) (entry post (n * 16 + k))
    unfolding moves_bytes row_moves add_move written_move move_bytes flat_map
    moves_add h =
        rw (add-one n)
        (ap (λ (o : Option Move). flat_map written_move (map (named names) (add_move n o (row_moves pre post k n)))) (move_some h)
        ∙ ap (flat_map written_move) (map_append (named names) (row_moves pre post k n) _)
        ∙ flat_map_append written_move (map (named names) (row_moves pre post k n)) _
        ∙ ap (λ (w : List ℕ). flat_map written_move (map (named names) (row_moves pre post k n)) ++ w)
        (append-nil (move_bytes (get_or names n []) (entry pre (n * 16 + k)) (entry post (n * 16 + k)))))

-- the moves of fewer events are no longer
module _ (names : List Name) (pre post : List ℕ) (k : ℕ) where
  moves_within : (n m : ℕ) → n ≤ m → length (moves_bytes names pre post k n) ≤ length (moves_bytes names pre post k m)
  moves_within = within (moves_bytes names pre post k) (λ n. go n (order (entry pre (n * 16 + k)) 64))
    where
      go : (n : ℕ) → (entry pre (n * 16 + k) < 64) ⊎ (64 ≤ entry pre (n * 16 + k))
          → length (moves_bytes names pre post k n) ≤ length (moves_bytes names pre post k (n + 1))
      go n (inl h) = rw (moves_add pre post k n names h) (simp length-append (omega arith))
      go n (inr h) = rw (moves_skip pre post k n names h) (omega arith)

-- the moves of e events are written, in a part of the buffer
pub record Moved (s ats lens pre post : List ℕ) (k events at size : ℕ) (out left : List ℕ) (i e : ℕ) : Type 0 where
  pub most : e ≤ events
  pub written : WritesWithin (moves_bytes (names_in s ats lens events) pre post k e) at size out i left

module _ {s ats lens pre post : List ℕ} {k events at size : ℕ} {out : List ℕ} where
  pub moved_none : Moved s ats lens pre post k events at size out out at 0
  unfolding moves_bytes row_moves flat_map
  moved_none = record { most = omega arith; written = within_none }

  module _ {left : List ℕ} {i e : ℕ} (p : Moved s ats lens pre post k events at size out left i e) (l : e < events) where
    pub moved_skip : 64 ≤ entry pre (e * 16 + k) → Moved s ats lens pre post k events at size out left i (e + 1)
    moved_skip h = record { most = omega arith; written = rw (moves_skip pre post k e (names_in s ats lens events) h) p.written }

    module _ (h : entry pre (e * 16 + k) < 64) where
      one_more_lem : moves_bytes (names_in s ats lens events) pre post k (e + 1)
          ≡ moves_bytes (names_in s ats lens events) pre post k e ++ move_bytes (name_in s ats lens e) (entry pre (e * 16 + k)) (entry post (e * 16 + k))
      one_more_lem = moves_add pre post k e (names_in s ats lens events) h ∙ rw (name_at_lem s ats lens events e l)

      pub moved_add : {j : ℕ} {after : List ℕ}
          → WritesWithin (move_bytes (name_in s ats lens e) (entry pre (e * 16 + k)) (entry post (e * 16 + k))) i size left j after
          → Moved s ats lens pre post k events at size out after j (e + 1)
      moved_add v = record { most = omega arith; written = rw one_more_lem (within_append p.written v) }

      -- where the moves of all events have room, so has the next
      pub moved_room : at + length (moves_bytes (names_in s ats lens events) pre post k events) ≤ size
          → i + length (move_bytes (name_in s ats lens e) (entry pre (e * 16 + k)) (entry post (e * 16 + k))) ≤ size
      moved_room r =
          let names = names_in s ats lens events in
          omega (
            arith,
            p.written.after,
            moves_within names pre post k (e + 1) events (omega arith),
            ap length one_more_lem,
            length-append (moves_bytes names pre post k e) (move_bytes (name_in s ats lens e) (entry pre (e * 16 + k)) (entry post (e * 16 + k))),
          )
