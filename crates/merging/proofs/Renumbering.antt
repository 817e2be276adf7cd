-- The moves of a machine by the new numbers, event by event.
use Prim.Native.Nat.{ℕ, ◌+◌, ◌*◌, ◌<◌, ◌≤◌}
use native.Mathlib.Decide.{ℕ_discrete}
use native.Mathlib.Omega.{arith}
use mathlib.Core.Path.{◌≡◌, sym, ◌∙◌}
use mathlib.Core.Logic.{◌⊎◌, inl, inr}
use mathlib.Core.Bool.{cond}
use mathlib.Core.List.{List}
use mathlib.Core.Option.{Option, none, some}
use borrow.Author.Tests.{lt-ltb, le-ltb, eq-eqb, ne_eqb}
use lib.Dec.{eqb, ltb}
use lib.ListN.{get_or, set, length-set}
use lib.Seq.{get_or-set_same, get_or-set_other}
use Rattle.model.specs.Product.{Move}
use Rattle.model.proofs.Laws.{below_suc}
use Rattle.rows.specs.Told.{entry}
use Rattle.regions.specs.Moves.{move_at, MoveRows}
use Rattle.merging.specs.Groups.{renumbered}
use Rattle.merging.specs.Numbers.{new_pre, Renumbered}

-- a position that is none of machine m for the first e events
abbrev pub Untouched : ℕ → ℕ → ℕ → Type 0
Untouched m e i = (j : ℕ) → j < e → ¬ (i ≡ j * 16 + m)

-- done for the first e events, and all other entries are as they were
pub record Renumbering (number : List ℕ) (m events : ℕ) (pre post pre2 post2 : List ℕ) (e : ℕ) : Type 0 where
  pub most : e ≤ events
  pub rows : MoveRows pre2 post2
  pub done : (j : ℕ) → j < e → move_at pre2 post2 m j ≡ renumbered (entry number) (move_at pre post m j)
  pub rest_pre : (i : ℕ) → Untouched m e i → entry pre2 i ≡ entry pre i
  pub rest_post : (i : ℕ) → Untouched m e i → entry post2 i ≡ entry post i
  pub ends : (j : ℕ) → j < events → entry pre2 (j * 16 + m) < 64 → entry post2 (j * 16 + m) < 64

-- a move is told by two entries
pub same_move : (pre post pre2 post2 : List ℕ) (m j : ℕ) → entry pre2 (j * 16 + m) ≡ entry pre (j * 16 + m) → entry post2 (j * 16 + m) ≡ entry post (j * 16 + m)
    → move_at pre2 post2 m j ≡ move_at pre post m j
unfolding move_at
same_move pre post pre2 post2 m j p q = rw (p, q)

-- what the two numbers p and q of the ends of a move make of it
pub new_move : (p q : ℕ) → p < 64 → cond {A = Option Move} (ltb (new_pre p q) 64) (some (record { pre = new_pre p q; post = q })) none
    ≡ cond {A = Option Move} (eqb p q) none (some (record { pre = p; post = q }))
unfolding new_pre
new_move p q l = go (ℕ_discrete p q)
  where
    go : Dec (p ≡ q) → cond {A = Option Move} (ltb (cond (eqb p q) 255 p) 64) (some (record { pre = cond (eqb p q) 255 p; post = q })) none
        ≡ cond {A = Option Move} (eqb p q) none (some (record { pre = p; post = q }))
    go (yes e) = rw (eq-eqb p q e)
    go (no n) = rw (ne_eqb p q n, lt-ltb p 64 l)

-- the next event's entries are as they were
next : (m e : ℕ) → Untouched m e (e * 16 + m)
next m e j l q = omega arith

module _ {number : List ℕ} {m events : ℕ} {pre post : List ℕ} where
  -- the event is not on the machine
  pub renumber_skip :
      {pre2 post2 pre3 post3 : List ℕ} {e x : ℕ} → Renumbering number m events pre post pre2 post2 e → e < events → x ≡ entry pre2 (e * 16 + m) → 64 ≤ x
      → pre3 ≡ pre2 → post3 ≡ post2 → Renumbering number m events pre post pre3 post3 (e + 1)
  unfolding move_at renumbered
  renumber_skip {pre2} {post2} {pre3} {post3} {e} {x} r l v h p q =
      rw (p, q) (record {
        most = omega arith;
        rows = r.rows;
        done = λ j b. at j (below_suc j e (omega arith));
        rest_pre = λ i u. r.rest_pre i (λ j b. u j (omega arith));
        rest_post = λ i u. r.rest_post i (λ j b. u j (omega arith));
        ends = r.ends;
      })
    where
      at : (j : ℕ) → (j < e) ⊎ (j ≡ e) → move_at pre2 post2 m j ≡ renumbered (entry number) (move_at pre post m j)
      at j (inl b) = r.done j b
      at j (inr b) =
          let same : entry pre2 (e * 16 + m) ≡ entry pre (e * 16 + m) = r.rest_pre (e * 16 + m) (next m e) in
          let off : ltb (entry pre (e * 16 + m)) 64 ≡ _ = le-ltb (entry pre (e * 16 + m)) 64 (omega arith) in
          rw (b, same, off)

  -- the event is on it: x and y are the places of its move, p and q their numbers
  pub renumber_more :
      {pre2 post2 pre3 post3 : List ℕ} {e x y p q z : ℕ} → m < 16 → e < 64 → ((k : ℕ) → k < 64 → entry number k < 64)
      → Renumbering number m events pre post pre2 post2 e → e < events → x ≡ entry pre2 (e * 16 + m) → x < 64 → y ≡ entry post2 (e * 16 + m)
      → p ≡ entry number x → q ≡ entry number y → z ≡ new_pre p q → pre3 ≡ set pre2 (e * 16 + m) z → post3 ≡ set post2 (e * 16 + m) q
      → Renumbering number m events pre post pre3 post3 (e + 1)
  unfolding move_at renumbered
  renumber_more {pre2} {post2} {pre3} {post3} {e} {x} {y} {p} {q} {z} lm le small r l v h w a b c s t =
      rw (s, t) (record {
        most = omega arith;
        rows = record { pre_size = length-set pre2 (e * 16 + m) z ∙ r.rows.pre_size; post_size = length-set post2 (e * 16 + m) q ∙ r.rows.post_size };
        done = λ j d. at j (below_suc j e (omega arith));
        rest_pre = λ i u. get_or-set_other pre2 (e * 16 + m) i z 0 (u e (omega arith)) ∙ r.rest_pre i (λ j d. u j (omega arith));
        rest_post = λ i u. get_or-set_other post2 (e * 16 + m) i q 0 (u e (omega arith)) ∙ r.rest_post i (λ j d. u j (omega arith));
        ends = λ j d. ends j d (ℕ_discrete (j * 16 + m) (e * 16 + m));
      })
    where
      y_small : y < 64
      y_small = let f : entry pre2 (e * 16 + m) < 64 = omega arith in omega (arith, r.ends e l f)

      p_small : p < 64
      p_small = omega (arith, small x h, a)

      q_small : q < 64
      q_small = omega (arith, small y y_small, b)

      here_pre : get_or (set pre2 (e * 16 + m) z) (e * 16 + m) 0 ≡ z
      here_pre = get_or-set_same pre2 (e * 16 + m) z 0 (omega (arith, r.rows.pre_size))

      here_post : get_or (set post2 (e * 16 + m) q) (e * 16 + m) 0 ≡ q
      here_post = get_or-set_same post2 (e * 16 + m) q 0 (omega (arith, r.rows.post_size))

      ends : (j : ℕ) → j < events → Dec (j * 16 + m ≡ e * 16 + m) → entry (set pre2 (e * 16 + m) z) (j * 16 + m) < 64 → entry (set post2 (e * 16 + m) q) (j * 16 + m) < 64
      ends j o (yes d) k = rw (d, here_post) q_small
      ends j o (no d) k =
          rw (get_or-set_other post2 (e * 16 + m) (j * 16 + m) q 0 d) (r.ends j o (rw (get_or-set_other pre2 (e * 16 + m) (j * 16 + m) z 0 d) at k))

      here : move_at (set pre2 (e * 16 + m) z) (set post2 (e * 16 + m) q) m e ≡ renumbered (entry number) (move_at pre post m e)
      here =
          let same_pre : entry pre (e * 16 + m) ≡ x = sym (r.rest_pre (e * 16 + m) (next m e)) ∙ sym v in
          let same_post : entry post (e * 16 + m) ≡ y = sym (r.rest_post (e * 16 + m) (next m e)) ∙ sym w in
          rw (here_pre, here_post, same_pre, same_post, lt-ltb x 64 h, sym a, sym b, c) (new_move p q p_small)

      at : (j : ℕ) → (j < e) ⊎ (j ≡ e)
          → move_at (set pre2 (e * 16 + m) z) (set post2 (e * 16 + m) q) m j ≡ renumbered (entry number) (move_at pre post m j)
      at j (inl d) =
          same_move pre2 post2 (set pre2 (e * 16 + m) z) (set post2 (e * 16 + m) q) m j (get_or-set_other pre2 (e * 16 + m) (j * 16 + m) z 0 (λ o. omega arith))
          (get_or-set_other post2 (e * 16 + m) (j * 16 + m) q 0 (λ o. omega arith))
          ∙ r.done j d
      at j (inr d) = rw d here

  pub renumber_end : {pre2 post2 : List ℕ} {e : ℕ} → Renumbering number m events pre post pre2 post2 e → events ≤ e
      → Renumbered number m events pre post pre2 post2
  renumber_end r l =
      record {
        rows = r.rows;
        moves = λ j h. r.done j (omega arith);
        others_pre = λ i u. r.rest_pre i (λ j h. u j);
        others_post = λ i u. r.rest_post i (λ j h. u j);
        ends = r.ends;
      }
