-- Words written one after another into a part of a buffer, where the next word overwrites what stands behind the last.
use Prim.Native.Nat.{ℕ, ◌+◌, ◌-◌, ◌≤◌}
use native.Mathlib.Omega.{arith}
use mathlib.Core.Path.{◌≡◌, refl, ap, sym, ◌∙◌}
use mathlib.Core.List.{List, [], ◌++◌, append-nil, append_assoc}
use lib.ListN.{length, take, drop, length-append, length-drop, take-append-drop, drop_of_length-le}
use lib.Seq.{sets, sets-eq, length-take-le, take_at, drop_at, take-take, drop-drop, take-append-add}
use Rattle.writers.specs.Written.{Writes}
use Rattle.writers.proofs.Writing.{writes_length}
use Rattle.sheet.specs.Within.{WritesWithin}

module _ {at size : ℕ} {out : List ℕ} where
  pub within_none : WritesWithin [] at size out at out
  within_none = record { after = omega arith; same_length = refl; front = sym (append-nil (take at out)); rest = refl }

  pub within_append : {a b mid left : List ℕ} {n m : ℕ} → WritesWithin a at size out n mid → WritesWithin b n size mid m left
      → WritesWithin (a ++ b) at size out m left
  within_append {a} {b} w v =
      record {
        after = omega (arith, length-append a b);
        same_length = v.same_length ∙ w.same_length;
        front = v.front ∙ rw w.front (append_assoc (take at out) a b);
        rest = v.rest ∙ w.rest;
      }

-- two buffers that agree from a position on agree further on
later : (n k : ℕ) (a b : List ℕ) → n ≤ k → drop n a ≡ drop n b → drop k a ≡ drop k b
later n k a b h e =
    let z : n + (k - n) ≡ k = omega arith in
    ap (λ (i : ℕ). drop i a) (sym z) ∙ sym (drop-drop (k - n) n a) ∙ ap (drop (k - n)) e ∙ drop-drop (k - n) n b ∙ ap (λ (i : ℕ). drop i b) z

-- exactly the word is written
module _ {word out left : List ℕ} {at next : ℕ} (w : Writes word at out next left) (h : at + length word ≤ length out) where
  parts : left ≡ (take at out ++ word) ++ drop (at + length word) out
  parts = w.bytes_left ∙ sets-eq word out at h

  front_length : length (take at out ++ word) ≡ at + length word
  front_length = omega (arith, length-append (take at out) word, length-take-le at out (omega arith))

  pub within_exact : {size : ℕ} → at + length word ≤ size → WritesWithin word at size out next left
  within_exact {size} l =
      let rest = drop (at + length word) out in
      record {
        after = w.after;
        same_length = writes_length w;
        front = rw (w.after, parts) (take_at (take at out ++ word) rest (at + length word) front_length);
        rest = later (at + length word) size left out l (rw parts (drop_at (take at out ++ word) rest (at + length word) front_length));
      }

-- the first bytes of a longer word are written
module _ {word out left : List ℕ} {at size next : ℕ} (w : WritesWithin word at size out next left) (h : at ≤ length out) where
  pub within_less : (n : ℕ) → n ≤ length word → WritesWithin (take n word) at size out (at + n) left
  within_less n l =
      let z : length (take at out) + n ≡ at + n = omega (arith, length-take-le at out h) in
      record {
        after = omega (arith, length-take-le n word l);
        same_length = w.same_length;
        front = sym (take-take (at + n) next left (omega arith)) ∙ ap (take (at + n)) w.front ∙ rw (← z) (take-append-add (take at out) word n);
        rest = w.rest;
      }

-- three words have room, one after another
pub record Room (at size : ℕ) (out a b d : List ℕ) : Type 0 where
  pub enough : at + length (a ++ (b ++ d)) ≤ size
  pub fits : size ≤ length out

module _ {at size : ℕ} {out a b d : List ℕ} (r : Room at size out a b d) where
  -- the length of all three
  whole : length (a ++ (b ++ d)) ≡ length a + length b + length d
  whole = simp length-append (omega arith)

  pub room_first : at + length a ≤ length out
  room_first = omega (arith, r.enough, r.fits, whole)

  module _ {n : ℕ} {mid : List ℕ} (w : Writes a at out n mid) where
    pub room_second : (n + length b ≤ size) × (size ≤ length mid)
    room_second = (omega (arith, r.enough, whole, w.after), omega (arith, r.fits, writes_length w))

    module _ {m : ℕ} {left : List ℕ} (v : WritesWithin b n size mid m left) where
      pub room_third : m + length d ≤ length left
      room_third = omega (arith, r.enough, r.fits, whole, w.after, writes_length w, v.after, v.same_length)

      pub all_three : {k : ℕ} {after : List ℕ} → Writes d m left k after → WritesWithin (a ++ (b ++ d)) at size out k after
      all_three u =
          within_append (within_exact w room_first (omega (arith, r.enough, whole)))
          (within_append v (within_exact u room_third (omega (arith, r.enough, whole, w.after, v.after))))

-- the part is written whole
pub within_end : {word out left : List ℕ} {at size : ℕ} → WritesWithin word at size out size left → size ≤ length out → left ≡ sets out at word
within_end {word} {out} {left} {at} {size} w h =
    sym (take-append-drop size left)
    ∙ rw (w.front, w.rest, w.after) (sym (sets-eq word out at (omega arith)))

-- a word that went by way of a row of its own length
pub copied : {word blank copy out left : List ℕ} {at n m : ℕ} → length word ≡ length blank → Writes word 0 blank n copy → Writes copy at out m left
    → Writes word at out m left
copied {word} {blank} {copy} q w v =
    let none : drop (0 + length word) blank ≡ [] = drop_of_length-le blank {i = 0 + length word} (omega arith) in
    let same : copy ≡ word = w.bytes_left ∙ sets-eq word blank 0 (omega arith) ∙ ap (λ (l : List ℕ). word ++ l) none ∙ append-nil word in
    rw same at v

-- a name of the text, by itself or with what stands behind it
module _ (s : List ℕ) (start len : ℕ) where
  pub length_cut : start + len ≤ length s → length (take len (drop start s)) ≡ len
  length_cut h = length-take-le len (drop start s) (omega (arith, length-drop start s))

  module _ {at size next : ℕ} {out left : List ℕ} (fits : size ≤ length out) where
    pub name_alone : start + len ≤ length s → at + len ≤ size → Writes (take (start + len - start) (drop start s)) at out next left
        → WritesWithin (take len (drop start s)) at size out next left
    name_alone h l w =
        let z : start + len - start ≡ len = omega arith in
        within_exact (rw z at w) (omega (arith, length_cut h)) (omega (arith, length_cut h))

    pub name_further : (n : ℕ) → start + n ≤ length s → at + n ≤ size → len ≤ n → Writes (take (start + n - start) (drop start s)) at out next left
        → WritesWithin (take len (drop start s)) at size out (at + len) left
    name_further n h l m w =
        let z : start + n - start ≡ n = omega arith in
        let k = length-take-le n (drop start s) (omega (arith, length-drop start s)) in
        rw (← take-take len n (drop start s) m) (within_less (within_exact (rw z at w) (omega arith) (omega arith)) (omega arith) len (omega arith))
