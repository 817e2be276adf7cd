-- Texts whose lines say the same are read alike, refusals too, as long as both fit.
use Prim.Native.Nat.{ℕ, suc, ◌≤◌}
use native.Mathlib.Omega.{arith}
use mathlib.Core.Path.{◌≡◌, refl, ap, sym, ◌∙◌, subst}
use mathlib.Core.Logic.{inl, inr}
use mathlib.Core.List.{List, [], ◌∷◌, ◌++◌, flat_map, append_assoc, append-nil}
use mathlib.Core.Option.{none, some}
use lib.ListN.{length, length-append}
use Rattle.model.specs.Refusal.{Refusal, refuse, Checked}
use Rattle.model.specs.Form.{Line, states, written, written_start}
use Rattle.model.specs.Text.{Input, next_line, read}
use Rattle.model.specs.Table.{Begins, start, next, LineNext, Fine, Reads, TextOffence, Offends}
use Rattle.model.proofs.Order.{Verdict, turned_down, let_through}
use Rattle.model.proofs.Chains.{Each, Proper, begun, unique, written_not_empty}
use Rattle.model.proofs.Texts.{complete_reads, reads_complete, counted_exists}
use Rattle.model.proofs.Whole.{Bad, unformed, missing, over, machineless, unknown, OffenceAt, long, line, offence_view, bad_offence, verdict3}
use Rattle.model.proofs.Verdicts.{decides}
use Rattle.model.proofs.Alike.{Alike, first, AllAlike, same_line, all_sym, all_snoc, same_length, same_machines, same_value, proper_alike, over_alike, unknown_alike, fine_alike, each_alike}

-- ---- two texts with the same offences and values are read alike

-- what the one offends and gives, the other does too
record Carries (s u : List ℕ) : Type 0 where
  offence : (r : Refusal) → TextOffence s r → TextOffence u r
  value : (v : Input) → Reads s v → Reads u v

offends : (s u : List ℕ) → Carries s u → (r : Refusal) → Offends s r → Offends u r
offends s u c r (inl o) = inl (c.offence r o)
offends s u c r (inr w) = inr (w.0, c.value w.0 w.1, w.2)

-- both ways, since the first refusal is one that no other comes before
carried : (s u : List ℕ) → Carries s u → Carries u s → (n : ℕ) (a : Checked Input) → Verdict n s a → Verdict n u a
carried s u c d n a (turned_down r e f) =
    turned_down r e (record { row = f.row; holds = offends s u c r f.holds; first = λ q k o. f.first q k (offends u s d q o) })
carried s u c d n a (let_through v e p) = let_through v e (record { reads = c.value v p.reads; clear = λ q k o. p.clear q k (offends u s d q o) })

one_verdict : (n : ℕ) (s : List ℕ) (a b : Checked Input) → Verdict n s a → Verdict n s b → a ≡ b
one_verdict n s a b x (turned_down r e f) = ((decides n s a x).refuses r).1 f ∙ sym e
one_verdict n s a b x (let_through v e p) = ((decides n s a x).passes v).1 p ∙ sym e

read_alike : (s u : List ℕ) → Carries s u → Carries u s → read s ≡ read u
read_alike s u c d = one_verdict 3 u (read s) (read u) (carried s u c d 3 (read s) (verdict3 s)) (verdict3 u)

-- ---- two texts on their way: the lines read so far are alike, and so is what stands ahead

-- a and b stand ahead of these lines: alike lines that may follow, and then the same bytes
pub record Ahead (ls ks : List Line) (a b : List ℕ) : Type 0 where
  pub lines : List Line
  pub others : List Line
  pub rest : List ℕ
  pub good : Each Proper ls lines
  pub alike : AllAlike lines others
  pub left : a ≡ flat_map written lines ++ rest
  pub right : b ≡ flat_map written others ++ rest

-- the line that stands next in the one has its like in the other
record Next (ls ks : List Line) (l : Line) (a b : List ℕ) : Type 0 where
  like : Line
  after : List ℕ
  alike : Alike l like
  bytes : b ≡ written like ++ after
  ahead : Ahead (ls ++ (l ∷ [])) (ks ++ (like ∷ [])) a after

module _ (ls ks : List Line) (p : AllAlike ls ks) where
  next_line_lem : (a b : List ℕ) → Ahead ls ks a b → (l : Line) (t : List ℕ) → Proper ls l → a ≡ written l ++ t → Next ls ks l t b
  unfolding flat_map
  next_line_lem a b h l t g e = go h.lines h.others h.good h.alike h.left h.right
    where
      go : (xs ys : List Line) → Each Proper ls xs → AllAlike xs ys → a ≡ flat_map written xs ++ h.rest → b ≡ flat_map written ys ++ h.rest → Next ls ks l t b
      go [] [] c q u v =
          record {
            like = l;
            after = t;
            alike = same_line l;
            bytes = v ∙ sym u ∙ e;
            ahead = record { lines = []; others = []; rest = t; good = tt; alike = tt; left = refl; right = refl };
          }
      go [] (y ∷ ys) c q u v = absurd q
      go (x ∷ xs) [] c q u v = absurd q
      go (x ∷ xs) (y ∷ ys) c q u v =
          let w = unique ls l x t (flat_map written xs ++ h.rest) g c.0 (sym e ∙ u ∙ append_assoc (written x) (flat_map written xs) h.rest) in
          record {
            like = y;
            after = flat_map written ys ++ h.rest;
            alike = subst (λ (z : Line). Alike z y) (sym w.0) q.0;
            bytes = v ∙ append_assoc (written y) (flat_map written ys) h.rest;
            ahead =
                record {
                  lines = xs;
                  others = ys;
                  rest = h.rest;
                  good = subst (λ (z : Line). Each Proper (ls ++ (z ∷ [])) xs) (sym w.0) c.1;
                  alike = q.1;
                  left = w.1;
                  right = refl;
                };
          }

  -- the one ends where the other does
  ends : (a b : List ℕ) → Ahead ls ks a b → a ≡ [] → b ≡ []
  unfolding flat_map
  ends a b h e = go h.lines h.others h.alike h.left h.right
    where
      go : (xs ys : List Line) → AllAlike xs ys → a ≡ flat_map written xs ++ h.rest → b ≡ flat_map written ys ++ h.rest → b ≡ []
      go [] [] q u v = v ∙ sym u ∙ e
      go [] (y ∷ ys) q u v = absurd q
      go (x ∷ xs) [] q u v = absurd q
      go (x ∷ xs) (y ∷ ys) q u v =
          absurd (written_not_empty x (flat_map written xs ++ h.rest) (sym (append_assoc (written x) (flat_map written xs) h.rest) ∙ sym u ∙ e))

turned : (ls ks : List Line) (a b : List ℕ) → AllAlike ls ks → Ahead ls ks a b → Ahead ks ls b a
turned ls ks a b p h =
    record {
      lines = h.others;
      others = h.lines;
      rest = h.rest;
      good = each_alike Proper proper_alike ls ks h.lines h.others p h.alike h.good;
      alike = all_sym h.lines h.others h.alike;
      left = h.right;
      right = h.left;
    }

-- the lines that the one begins with have their likes in the other
record Along (t : List ℕ) (ls : List Line) (a : List ℕ) : Type 0 where
  likes : List Line
  rest : List ℕ
  begins : Begins t likes rest
  alike : AllAlike ls likes
  ahead : Ahead ls likes a rest

along : (s t : List ℕ) → Ahead [] [] s t → (ls : List Line) (a : List ℕ) → Begins s ls a → Along t ls a
along s t h ls a start = record { likes = []; rest = t; begins = start; alike = tt; ahead = h }
along s t h ls a (next {ls = ks} l f g b) = go (along s t h ks (written l ++ a) b)
  where
    go : Along t ks (written l ++ a) → Along t (ks ++ (l ∷ [])) a
    go w =
        let good : Proper ks l = record { follows = f; formed = g } in
        let n = next_line_lem ks w.likes w.alike (written l ++ a) w.rest w.ahead l a good refl in
        let m = proper_alike ks w.likes w.alike l n.like n.alike good in
        record {
          likes = w.likes ++ (n.like ∷ []);
          rest = n.after;
          begins = next n.like m.follows m.formed (subst (Begins t w.likes) n.bytes w.begins);
          alike = all_snoc ks w.likes l n.like w.alike n.alike;
          ahead = n.ahead;
        }

-- ---- what is wrong with the one is wrong with the other

bad_alike : (ls ks : List Line) (a b : List ℕ) → AllAlike ls ks → Ahead ls ks a b → (m : ℕ) → Bad ls a m → Bad ks b m
bad_alike ls ks a b p h m (unformed x y) =
    unformed (λ e. x (ends ks ls (all_sym ls ks p) b a (turned ls ks a b p h) e)) (λ w. y (back w))
  where
    back : LineNext ks b → LineNext ls a
    back (l, t, f, g, e) =
        let q = all_sym ls ks p in
        let good : Proper ks l = record { follows = f; formed = g } in
        let n = next_line_lem ks ls q b a (turned ls ks a b p h) l t good e in
        let r = proper_alike ks ls q l n.like n.alike good in
        (n.like, n.after, r.follows, r.formed, n.bytes)
bad_alike ls ks a b p h m (missing x y) = missing (ends ls ks p a b h x) (omega (arith, same_length ls ks p))
bad_alike ls ks a b p h m (over l t g e x) =
    let n = next_line_lem ls ks p a b h l t g e in
    over n.like n.after (proper_alike ls ks p l n.like n.alike g) n.bytes (over_alike ls ks p l n.like n.alike x)
bad_alike ls ks a b p h m (machineless x y z) =
    machineless (ends ls ks p a b h x) (omega (arith, same_length ls ks p)) (sym (same_machines ls ks p) ∙ z)
bad_alike ls ks a b p h m (unknown l t g e x) =
    let n = next_line_lem ls ks p a b h l t g e in
    unknown n.like n.after (proper_alike ls ks p l n.like n.alike g) n.bytes (unknown_alike ls ks p l n.like n.alike x)

module _ (s t : List ℕ) (h : Ahead [] [] s t) (fits : length s ≤ 32768) (fit : length t ≤ 32768) where
  bad_line_lem : (m : ℕ) (ls : List Line) (a : List ℕ) → Begins s ls a → Bad ls a m → TextOffence t (refuse m (next_line ls) 0)
  bad_line_lem m ls a b d =
      let w = along s t h ls a b in
      subst (λ (n : ℕ). TextOffence t (refuse m n 0)) (sym (ap (λ (n : ℕ). suc n) (same_length ls w.likes w.alike)))
      (bad_offence t w.likes w.rest m w.begins (bad_alike ls w.likes a w.rest w.alike w.ahead m d))

  gives : (v : Input) → Reads s v → Reads t v
  gives v r =
      let w = along s t h r.lines [] r.bytes in
      let c = reads_complete s v r in
      let e = ends r.lines w.likes w.alike [] w.rest w.ahead refl in
      let b : Begins t w.likes [] = subst (Begins t w.likes) e w.begins in
      subst (Reads t) (sym (r.value ∙ same_value r.lines w.likes w.alike))
      (complete_reads t w.likes b (record {
        good = (begun t w.likes [] b).good;
        fine = each_alike Fine fine_alike [] [] r.lines w.likes tt w.alike c.fine;
        two = subst (λ (n : ℕ). 2 ≤ n) (same_length r.lines w.likes w.alike) c.two;
        machine = counted_exists w.likes (subst (λ (n : ℕ). 1 ≤ n) (same_machines r.lines w.likes w.alike) r.machine);
      }) fit)

  carries : Carries s t
  carries = record { offence = λ r x. go r (offence_view s r x); value = gives }
    where
      go : (r : Refusal) → OffenceAt s r → TextOffence t r
      go r (long x e) = absurd (omega arith)
      go r (line m ls a b d e) = subst (TextOffence t) (sym e) (bad_line_lem m ls a b d)

pub alike_read : (s t : List ℕ) → Ahead [] [] s t → length s ≤ 32768 → length t ≤ 32768 → read s ≡ read t
alike_read s t h f g = read_alike s t (carries s t h f g) (carries t s (turned [] [] s t tt h) g f)

-- start 0 written out makes the text longer, so only that one has to fit
pub two_forms : (s : List ℕ) (n : ℕ) (t : List ℕ) → n ≤ 999 → s ≡ written (states n (some 0)) ++ t → length s ≤ 32768 → read s ≡ read (written (states n none) ++ t)
unfolding written written_start flat_map
two_forms s n t h e k =
    alike_read s (written (states n none) ++ t)
    (record {
      lines = states n (some 0) ∷ [];
      others = states n none ∷ [];
      rest = t;
      good = (record { follows = refl; formed = (h, omega arith) }, tt);
      alike = (first n (some 0) none refl, tt);
      left = e ∙ ap (λ (x : List ℕ). x ++ t) (sym (append-nil (written (states n (some 0)))));
      right = ap (λ (x : List ℕ). x ++ t) (sym (append-nil (written (states n none))));
    })
    k (simp length-append (omega (arith, simp length-append at (ap length e))))
