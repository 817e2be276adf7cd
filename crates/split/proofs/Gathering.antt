-- Words gathered in a row, one after another.
use Prim.Native.Nat.{ℕ, ◌+◌, ◌-◌, ◌<◌, ◌≤◌}
use native.Mathlib.Omega.{arith}
use mathlib.Core.Path.{◌≡◌, refl, ap, sym, ◌∙◌, subst}
use mathlib.Core.List.{List, [], ◌∷◌, ◌++◌}
use lib.ListN.{length, take, drop, length-append}
use lib.Seq.{sets, sets-eq, take_at, length-take-le}
use Rattle.writers.specs.Written.{Writes}
use Rattle.writers.proofs.Writing.{writes_length}
use Rattle.command_line.specs.WordRow.{row_of, EachEnded}
use Rattle.command_line.proofs.Rows.{row_snoc}
use Rattle.command_line.proofs.Ending.{row_ended}
use Rattle.std.specs.Prelude.{Option, Some, None}
use Rattle.split.specs.Gathered.{Gathers}

-- what is gathered is a row of words
pub gathered_ended : {words n : ℕ} {r : Option ℕ} {row : List ℕ} → Gathers words r row → r ≡ Some n → EachEnded (take n row)
gathered_ended {n = n} g e = let w = g.gathered n e in subst EachEnded (sym w.lie) (row_ended w.ws)

-- the words before word i lie in the first n bytes
pub record Gathering (words : ℕ) (row : List ℕ) (n i : ℕ) : Type 0 where
  pub ws : List (List ℕ)
  pub counted : length ws + 1 ≡ i
  pub most : length ws ≤ words - 1
  pub within : n ≤ length row
  pub lie : take n row ≡ row_of ws

pub gathering_none : {words : ℕ} {row : List ℕ} → Gathering words row 0 1
gathering_none = record { ws = []; counted = refl; most = omega arith; within = omega arith; lie = refl }

-- what is written behind the first bytes stands behind them
behind : (row w : List ℕ) (n : ℕ) → n + length w ≤ length row → take (n + length w) (sets row n w) ≡ take n row ++ w
behind row w n h =
    ap (take (n + length w)) (sets-eq w row n h)
    ∙ take_at (take n row ++ w) (drop (n + length w) row) (n + length w)
    (length-append (take n row) w ∙ ap (λ (x : ℕ). x + length w) (length-take-le n row (omega arith)))

module _ {words : ℕ} {row : List ℕ} {n i : ℕ} (g : Gathering words row n i) where
  pub gathering_more : (w : List ℕ) {left : List ℕ} {m : ℕ} → i < words → n + length w < length row → Writes (w ++ (0 ∷ [])) n row m left → Gathering words left m (i + 1)
  gathering_more w {left} {m} h l e =
      let v = w ++ (0 ∷ []) in
      let size : length v ≡ length w + 1 = length-append w (0 ∷ []) in
      record {
        ws = g.ws ++ (w ∷ []);
        counted = omega (arith, length-append g.ws (w ∷ []), g.counted);
        most = omega (arith, length-append g.ws (w ∷ []), g.counted);
        within = omega (arith, e.after, size, writes_length e);
        lie =
            rw (e.after, e.bytes_left) (behind row v n (omega (arith, size)))
            ∙ ap (λ (x : List ℕ). x ++ v) g.lie
            ∙ sym (row_snoc g.ws w);
      }

  pub gathering_end : words ≤ i → Gathers words (Some n) row
  gathering_end h =
      record {
        within = λ k e. let z : n ≡ k = cc in omega (arith, g.within);
        gathered = λ k e. let z : n ≡ k = cc in
            record { ws = g.ws; counted = omega (arith, g.counted, g.most); lie = ap (λ (x : ℕ). take x row) (sym z) ∙ g.lie };
        no_room = λ e. let z : ◌≡◌ {A = ℕ} 0 1 = cc in absurd (omega arith);
      }

  -- the next word has no room
  pub gathering_stop : (w : List ℕ) → i < words → length row ≤ n + length w → Gathers words None row
  gathering_stop w h l =
      record {
        within = λ k e. let z : ◌≡◌ {A = ℕ} 0 1 = cc in absurd (omega arith);
        gathered = λ k e. let z : ◌≡◌ {A = ℕ} 0 1 = cc in absurd (omega arith);
        no_room = λ e.
            record {
              ws = g.ws ++ (w ∷ []);
              counted = omega (arith, length-append g.ws (w ∷ []), g.counted);
              longer =
                  omega
                  (arith, ap length (row_snoc g.ws w), length-append (row_of g.ws) (w ++ (0 ∷ [])), length-append w (0 ∷ []), ap length g.lie, length-take-le n row g.within);
            };
      }
