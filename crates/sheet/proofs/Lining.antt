-- The sheet: line by line, how long it is and how it is written.
use Prim.Native.Nat.{ℕ, zero, suc, ◌+◌, ◌*◌, ◌≤◌, ◌<◌}
use native.Mathlib.Numerals.{add-one}
use native.Mathlib.Omega.{arith}
use mathlib.Core.Path.{◌≡◌, refl, ap, ◌∙◌}
use mathlib.Core.List.{List, [], ◌∷◌, ◌++◌, map, flat_map, append-nil, append_assoc}
use lib.ListN.{length, length-append, length-map}
use lib.Seq.{sets}
use Rattle.model.specs.Bytes.{bytes, digits}
use Rattle.model.specs.Sheet.{written_line, written_count, written_sheet, named_line}
use Rattle.model.proofs.ListLaws.{map_append, flat_map_append}
use Rattle.rows.specs.declared.Tables.{Tables}
use Rattle.rows.specs.Told.{entry}
use Rattle.writers.specs.Written.{Writes}
use Rattle.writers.proofs.Writing.{within, writes_length}
use Rattle.sheet.specs.Written.{head_bytes, row_line, row_lines, moves_bytes, row_sheet}
use Rattle.rows.specs.Names.{row_names}
use Rattle.sheet.specs.Within.{WritesWithin}
use Rattle.sheet.proofs.Within.{within_none, within_exact, within_append, within_end, Room}

length_title : (n : ℕ) → length (written_count n) ≡ 12 + length (digits n)
unfolding written_count
length_title n = omega (arith, length-append (bytes "(accepted ") (digits n ++ bytes ")\n"), length-append (digits n) (bytes ")\n"))

-- what stands before the moves of machine k
abbrev pub head_of : Tables → ℕ → List ℕ
head_of p k = head_bytes k (entry p.sizes k) (entry p.place (k * 256 + p.counts.initial))

module _ (s : List ℕ) (p : Tables) (pre post : List ℕ) where
  abbrev pub moves_of : ℕ → List ℕ
  moves_of k = moves_bytes (row_names s p) pre post k p.counts.events

  abbrev pub line_of : ℕ → List ℕ
  line_of k = head_of p k ++ (moves_of k ++ bytes ")\n")

  -- the lines of the first n machines
  unfoldable pub lines_to : ℕ → List ℕ
  lines_to n = flat_map written_line (map (named_line (row_names s p)) (row_lines p pre post n))

  line_is : (k : ℕ) → written_line (named_line (row_names s p) (row_line p pre post k)) ≡ line_of k
  unfolding written_line row_line head_bytes moves_bytes
  line_is k = simp append_assoc

  pub lines_more : (n : ℕ) → lines_to (n + 1) ≡ lines_to n ++ line_of n
  unfolding lines_to row_lines flat_map
  lines_more n =
      rw (add-one n)
      (ap (flat_map written_line) (map_append (named_line (row_names s p)) (row_lines p pre post n) (row_line p pre post n ∷ []))
      ∙ flat_map_append written_line (map (named_line (row_names s p)) (row_lines p pre post n)) (named_line (row_names s p) (row_line p pre post n) ∷ [])
      ∙ ap (λ (w : List ℕ). lines_to n ++ w) (append-nil (written_line (named_line (row_names s p) (row_line p pre post n))) ∙ line_is n))

  pub length_line : (k : ℕ) → length (line_of k) ≡ length (head_of p k) + length (moves_of k) + 2
  length_line k = omega (arith, length-append (head_of p k) (moves_of k ++ bytes ")\n"), length-append (moves_of k) (bytes ")\n"))

  lines_counted : (n : ℕ) → length (row_lines p pre post n) ≡ n
  unfolding row_lines
  lines_counted zero = refl
  lines_counted (suc n) = omega (arith, length-append (row_lines p pre post n) (row_line p pre post n ∷ []), lines_counted n)

  sheet_is : row_sheet s p pre post ≡ written_count p.counts.machines ++ lines_to p.counts.machines
  unfolding row_sheet written_sheet lines_to
  sheet_is =
      let n = p.counts.machines in
      ap (λ (k : ℕ). written_count k ++ lines_to n) (length-map (row_lines p pre post n) (named_line (row_names s p)) ∙ lines_counted n)

  lines_within : (n m : ℕ) → n ≤ m → length (lines_to n) ≤ length (lines_to m)
  lines_within = within lines_to (λ n. rw (lines_more n) (simp length-append (omega arith)))

  pub length_sheet : length (row_sheet s p pre post) ≡ 12 + length (digits p.counts.machines) + length (lines_to p.counts.machines)
  length_sheet = rw (sheet_is) (omega (arith, length-append (written_count p.counts.machines) (lines_to p.counts.machines), length_title p.counts.machines))

  pub title_within : 12 + length (digits p.counts.machines) ≤ length (row_sheet s p pre post)
  title_within = omega (arith, length_sheet)

-- after the first line, n lines are written into a buffer of which the first `size` bytes are for the sheet
pub record Lined (s : List ℕ) (p : Tables) (pre post : List ℕ) (at size : ℕ) (out left : List ℕ) (i n : ℕ) : Type 0 where
  pub most : n ≤ p.counts.machines
  pub written : WritesWithin (lines_to s p pre post n) at size out i left

pub lined_none : {s : List ℕ} {p : Tables} {pre post out : List ℕ} {at size : ℕ} → Lined s p pre post at size out out at 0
unfolding lines_to row_lines flat_map
lined_none = record { most = omega arith; written = within_none }

pub lined_add : {s : List ℕ} {p : Tables} {pre post out left after : List ℕ} {at size i j n : ℕ} → Lined s p pre post at size out left i n → n < p.counts.machines
    → WritesWithin (line_of s p pre post n) i size left j after → Lined s p pre post at size out after j (n + 1)
lined_add {s} {p} {pre} {post} {n = n} t l w = record { most = omega arith; written = rw (lines_more s p pre post n) (within_append t.written w) }

module _ (s : List ℕ) (p : Tables) (pre post : List ℕ) {at size : ℕ} {all out : List ℕ} (q : size ≡ length (row_sheet s p pre post)) (fits : size ≤ length all)
    (first : Writes (written_count p.counts.machines) 0 all at out) where
  -- one line more: where the sheet has room, so has the line
  module _ {left : List ℕ} {i n : ℕ} (t : Lined s p pre post at size out left i n) (l : n < p.counts.machines) where
    pub line_room : Room i size left (head_of p n) (moves_of s p pre post n) (bytes ")\n")
    line_room =
        record {
          enough = omega (
            arith,
            first.after,
            t.written.after,
            length_title p.counts.machines,
            length_sheet s p pre post,
            lines_within s p pre post (n + 1) p.counts.machines (omega arith),
            ap length (lines_more s p pre post n),
            length-append (lines_to s p pre post n) (line_of s p pre post n),
          );
          fits = omega (arith, t.written.same_length, writes_length first);
        }

  -- all of it
  pub lined_end : {left : List ℕ} {i n : ℕ} → Lined s p pre post at size out left i n → p.counts.machines ≤ n → left ≡ sets all 0 (row_sheet s p pre post)
  lined_end {left} {i} {n} t h =
      let z : n ≡ p.counts.machines = omega (arith, t.most) in
      let k : 0 + length (written_count p.counts.machines) ≤ size = omega (arith, length_sheet s p pre post, length_title p.counts.machines) in
      let w = within_append (within_exact first (omega arith) k) (rw z at t.written) in
      let v = rw (← sheet_is s p pre post) at w in
      let e : i ≡ size = omega (arith, v.after) in
      within_end (rw e at v) fits
