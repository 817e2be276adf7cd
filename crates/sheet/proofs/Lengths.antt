-- The length of the sheet: summed event by event it is that of the bytes, which stand machine by machine.
use Prim.Native.Nat.{ℕ, zero, suc, ◌+◌, ◌*◌, ◌≤◌, ◌<◌, min}
use native.Mathlib.Numerals.{add-one}
use native.Mathlib.Nat.{add-mul, mul-le-mul}
use native.Mathlib.Omega.{arith}
use borrow.Author.Tests.{ltb-false}
use mathlib.Core.Path.{◌≡◌, refl, ap, sym, subst, ◌∙◌}
use mathlib.Core.Logic.{◌⊎◌, inl, inr}
use mathlib.Core.Bool.{Bool, true, false, not, ◌&&◌, cond}
use mathlib.Core.List.{List, [], flat_map}
use lib.Dec.{T, ltb, ltb→lt, lt→ltb}
use lib.ListN.{length, get_or, length-append}
use Rattle.model.specs.Bytes.{digits, Name}
use Rattle.model.specs.Sheet.{move_bytes}
use Rattle.model.proofs.Laws.{T_false, and_l, and_r, and_not, order, not_below, cond_true, cond_false}
use Rattle.rows.specs.declared.Counts.{Counts}
use Rattle.rows.specs.Tables.{tables_in}
use Rattle.rows.specs.Told.{entry}
use Rattle.rows.specs.Bounded.{NamesInside}
use Rattle.rows.specs.Names.{names_in}
use Rattle.sheet.specs.Written.{row_moves, row_line, row_lines, moves_bytes, row_sheet}
use Rattle.sheet.specs.Rows.{sheet_rows, SheetLength}
use Rattle.sheet.specs.Lengths.{figures_at, machines_on, figures_on, event_length, moves_length, heads_length}
use Rattle.sheet.proofs.Parts.{length_move, length_head}
use Rattle.rows.proofs.Names.{name_at_lem, length_name}
use Rattle.sheet.proofs.Moving.{moves_skip, moves_add}
use Rattle.sheet.proofs.Lining.{lines_to, line_of, lines_more, length_line, length_sheet}

-- of one event the moves on the first m machines, as far as there are machines
pub record Counted (pre post : List ℕ) (e machines lane m moves figures : ℕ) : Type 0 where
  pub same : lane ≡ m
  pub most : m ≤ 16
  pub are_on : moves ≡ machines_on pre e (min m machines)
  pub written : figures ≡ figures_on pre post e (min m machines)
  pub few : moves ≤ m
  pub small : figures ≤ 6 * m

module _ {pre post : List ℕ} {e machines : ℕ} where
  pub counted_none : Counted pre post e machines 0 0 0 0
  unfolding machines_on figures_on
  counted_none =
      let z : min 0 machines ≡ 0 = omega arith in
      record { same = refl; most = omega arith; are_on = rw z; written = rw z; few = omega arith; small = omega arith }

  module _ {lane m moves figures : ℕ} (p : Counted pre post e machines lane m moves figures) (l : m < 16) where
    pub counted_add : {a b : ℕ} → (ltb lane machines && ltb (entry pre (e * 16 + m)) 64) ≡ true → a ≡ length (digits (entry pre (e * 16 + m)))
        → b ≡ length (digits (entry post (e * 16 + m))) → a ≤ 3 → b ≤ 3 → Counted pre post e machines (lane + 1) (m + 1) (moves + 1) (figures + (a + b))
    unfolding machines_on figures_on
    counted_add {a} {b} t qa qb la lb =
        let test = ltb (entry pre (e * 16 + m)) 64 in
        let both = subst T (sym t) tt in
        let h : m < machines = omega (arith, p.same, ltb→lt lane machines (and_l (ltb lane machines) test both)) in
        let z : min m machines ≡ m = omega arith in
        let y : min (m + 1) machines ≡ suc m = omega arith in
        let on = and_r (ltb lane machines) test both in
        record {
          same = ap (λ x. x + 1) p.same;
          most = omega arith;
          are_on = rw (y, cond_true {A = ℕ} test 1 0 on) (ap (λ x. x + 1) (p.are_on ∙ ap (machines_on pre e) z));
          written = rw (y, cond_true {A = ℕ} test (figures_at pre post (e * 16 + m)) 0 on)
              (omega (arith, p.written, ap (figures_on pre post e) z));
          few = omega (arith, p.few);
          small = omega (arith, p.small);
        }

    pub counted_skip : (ltb lane machines && ltb (entry pre (e * 16 + m)) 64) ≡ false → Counted pre post e machines (lane + 1) (m + 1) moves figures
    unfolding machines_on figures_on
    counted_skip t = go (and_not (ltb lane machines) (ltb (entry pre (e * 16 + m)) 64) (subst (λ (b : Bool). T (not b)) (sym t) tt)) (order m machines)
      where
        go : T (not (ltb lane machines)) ⊎ T (not (ltb (entry pre (e * 16 + m)) 64)) → (m < machines) ⊎ (machines ≤ m)
            → Counted pre post e machines (lane + 1) (m + 1) moves figures
        go d (inr h) =
            let z : min (m + 1) machines ≡ min m machines = omega arith in
            record {
              same = ap (λ x. x + 1) p.same;
              most = omega arith;
              are_on = rw z p.are_on;
              written = rw z p.written;
              few = omega (arith, p.few);
              small = omega (arith, p.small);
            }
        go (inl d) (inl h) = absurd (omega (arith, p.same, ltb-false lane machines (T_false (ltb lane machines) d)))
        go (inr d) (inl h) =
            let test = ltb (entry pre (e * 16 + m)) 64 in
            let z : min m machines ≡ m = omega arith in
            let y : min (m + 1) machines ≡ suc m = omega arith in
            record {
              same = ap (λ x. x + 1) p.same;
              most = omega arith;
              are_on = rw (y, cond_false {A = ℕ} test 1 0 d) (omega (arith, p.are_on, ap (machines_on pre e) z));
              written = rw (y, cond_false {A = ℕ} test (figures_at pre post (e * 16 + m)) 0 d) (omega (arith, p.written, ap (figures_on pre post e) z));
              few = omega (arith, p.few);
              small = omega (arith, p.small);
            }

  pub counted_end : {lane m moves figures name a b : ℕ} → Counted pre post e machines lane m moves figures → 16 ≤ m → machines ≤ 16 → name ≤ 16 → a ≡ moves → b ≡ figures
      → (a * (10 + name) + b ≡ event_length name pre post e machines) × (a * (10 + name) + b ≤ 512)
  unfolding event_length
  counted_end {lane} {m} {moves} {figures} {name} {a} {b} p h k l qa qb =
      let z : min m machines ≡ machines = omega (arith, p.most) in
      let most : a ≤ 16 = omega (arith, p.few, p.most) in
      let long : 10 + name ≤ 26 = omega arith in (
        rw (qa ∙ p.are_on ∙ ap (machines_on pre e) z, qb ∙ p.written ∙ ap (figures_on pre post e) z),
        omega (arith, mul-le-mul most long, p.small, p.most),
      )

-- one machine more, for one event
lane_sum : (b : Bool) (m f w x : ℕ) → (m + cond b 1 0) * w + (f + cond b x 0) ≡ m * w + f + cond b (w + x) 0
lane_sum true m f w x = omega (arith, add-mul m 1 w)
lane_sum false m f w x = let z : m + 0 ≡ m = omega arith in rw z (omega arith)

module _ (s ats lens pre post : List ℕ) (events : ℕ) (inside : NamesInside s ats lens events) where
  abbrev names : List Name
  names = names_in s ats lens events

  abbrev move_length : ℕ → ℕ → ℕ
  move_length k e = cond (ltb (entry pre (e * 16 + k)) 64) (10 + entry lens e + figures_at pre post (e * 16 + k)) 0

  one_move : (k e : ℕ) → e < events → length (moves_bytes names pre post k (e + 1)) ≡ length (moves_bytes names pre post k e) + move_length k e
  one_move k e l = go (order (entry pre (e * 16 + k)) 64)
    where
      go : (entry pre (e * 16 + k) < 64) ⊎ (64 ≤ entry pre (e * 16 + k))
          → length (moves_bytes names pre post k (e + 1)) ≡ length (moves_bytes names pre post k e) + move_length k e
      go (inl h) =
          let q = entry pre (e * 16 + k) in
          let r = entry post (e * 16 + k) in
          omega (
            arith,
            cond_true (ltb q 64) (10 + entry lens e + figures_at pre post (e * 16 + k)) 0 (lt→ltb q 64 h),
            ap length (moves_add pre post k e names h),
            length-append (moves_bytes names pre post k e) (move_bytes (get_or names e []) q r),
            length_move (get_or names e []) q r,
            ap length (name_at_lem s ats lens events e l),
            length_name s ats lens events e inside l,
          )
      go (inr h) =
          let q = entry pre (e * 16 + k) in
          omega (
            arith,
            cond_false (ltb q 64) (10 + entry lens e + figures_at pre post (e * 16 + k)) 0 (not_below q 64 h),
            ap length (moves_skip pre post k e names h),
          )

  -- the moves of the first e events on the first n machines
  all_moves : ℕ → ℕ → ℕ
  all_moves zero e = 0
  all_moves (suc n) e = all_moves n e + length (moves_bytes names pre post n e)

  no_event : (n : ℕ) → all_moves n 0 ≡ 0
  unfolding all_moves moves_bytes row_moves flat_map
  no_event zero = refl
  no_event (suc n) = omega (arith, no_event n)

  one_event : (n e : ℕ) → e < events → all_moves n (e + 1) ≡ all_moves n e + event_length (entry lens e) pre post e n
  unfolding all_moves event_length machines_on figures_on
  one_event zero e l = omega arith
  one_event (suc n) e l =
      omega (
        arith,
        one_event n e l,
        one_move n e l,
        lane_sum (ltb (entry pre (e * 16 + n)) 64) (machines_on pre e n) (figures_on pre post e n) (10 + entry lens e) (figures_at pre post (e * 16 + n)),
      )

  all_events : (n e : ℕ) → e ≤ events → all_moves n e ≡ moves_length lens pre post n e
  unfolding moves_length
  all_events n zero h = no_event n
  all_events n (suc e) h = rw (← add-one e) (one_event n e (omega arith) ∙ ap (λ x. x + event_length (entry lens e) pre post e n) (all_events n e (omega arith)))

-- one event, and one machine, more
pub moves_more : (lens pre post : List ℕ) (n e : ℕ)
    → moves_length lens pre post n (e + 1) ≡ moves_length lens pre post n e + event_length (entry lens e) pre post e n
unfolding moves_length
moves_more lens pre post n e = rw (add-one e)

pub heads_more : (sizes places : List ℕ) (initial n : ℕ)
    → heads_length sizes places initial (n + 1)
    ≡ heads_length sizes places initial n
    + (30 + length (digits n) + length (digits (entry sizes n)) + length (digits (entry places (n * 256 + initial))))
unfolding heads_length
heads_more sizes places initial n = rw (add-one n)

module _ (s : List ℕ) (c : Counts) (ats lens sizes places pre post : List ℕ) (inside : NamesInside s ats lens c.events) where
  all_lines : (n : ℕ)
      → length (lines_to s (sheet_rows c ats lens sizes places) pre post n)
      ≡ heads_length sizes places c.initial n + all_moves s ats lens pre post c.events inside n c.events
  unfolding all_moves heads_length lines_to row_lines flat_map
  all_lines zero = refl
  all_lines (suc n) =
      let p = sheet_rows c ats lens sizes places in
      ap (λ k. length (lines_to s p pre post k)) (sym (add-one n))
      ∙ omega (
        arith,
        all_lines n,
        ap length (lines_more s p pre post n),
        length-append (lines_to s p pre post n) (line_of s p pre post n),
        length_line s p pre post n,
        length_head n (entry sizes n) (entry places (n * 256 + c.initial)),
      )

-- the rows of transitions and duplicates are not looked at
module _ (s : List ℕ) (c : Counts) (ats lens sizes places pre post sources events targets duplicates : List ℕ) where
  lines_same : (n : ℕ)
      → row_lines (sheet_rows c ats lens sizes places) pre post n ≡ row_lines (tables_in c ats lens sources events targets sizes duplicates places) pre post n
  unfolding row_lines row_line
  lines_same zero = refl
  lines_same (suc n) = rw (lines_same n)

  pub sheet_same : row_sheet s (sheet_rows c ats lens sizes places) pre post
      ≡ row_sheet s (tables_in c ats lens sources events targets sizes duplicates places) pre post
  unfolding row_sheet
  sheet_same = rw (lines_same c.machines)

pub sheet_length : (c : Counts) (lens sizes places pre post : List ℕ) {first heads moves : ℕ} → first ≡ 12 + length (digits c.machines)
    → heads ≡ heads_length sizes places c.initial c.machines → moves ≡ moves_length lens pre post c.machines c.events
    → SheetLength c lens sizes places pre post (first + heads + moves)
sheet_length c lens sizes places pre post qf qh qm s ats sources events targets duplicates inside =
    omega (
      arith,
      ap length (sheet_same s c ats lens sizes places pre post sources events targets duplicates),
      length_sheet s (sheet_rows c ats lens sizes places) pre post,
      all_lines s c ats lens sizes places pre post inside c.machines,
      all_events s ats lens pre post c.events inside c.machines c.events (omega arith),
    )
