-- A name of the list and its number, by the ways out of the code.
use Rattle.std.specs.Prelude.{Option, Some, None, unwrap_or}
use Rattle.lexer.specs.declared.NameAt.{NameAt}
use Prim.Native.Nat.{ℕ, ◌+◌, ◌<◌, ◌≤◌}
use native.Mathlib.Omega.{arith}
use mathlib.Core.Path.{◌≡◌, refl, ap, sym, ◌∙◌}
use mathlib.Core.Logic.{inl, inr}
use mathlib.Core.Bool.{Bool, true, ◌&&◌}
use mathlib.Core.List.{List, [], ◌∷◌, ◌++◌}
use lib.Dec.{ltb}
use lib.ListN.{length, get_or, drop, length-drop}
use borrow.Author.Tests.{ltb-true}
use Rattle.model.specs.Bytes.{bytes, is_digit, is_letter, is_capital, is_name_byte, Name, OneEvent}
use Rattle.model.specs.Reading.{fail, got, lit_bytes, name, part}
use Rattle.model.specs.Sheet.{name_form}
use Rattle.model.proofs.Laws.{both}
use Rattle.model.proofs.OneEvent.{one_name}
use Rattle.model.proofs.Words.{Spans, spans_part, by, lit_complete, name_complete, name_sound}
use Rattle.lexer.proofs.Answers.{GotName}
use Rattle.lexer.proofs.Moves.{moves_literal, moves_name}
use Rattle.names.specs.Held.{Same}
use Rattle.names.proofs.HeldNames.{entry_name, entry_same, entry_told}
use Rattle.names.proofs.Lookup.{event_number_lem}
use Rattle.quick_words.specs.Guessed.{Packs}
use Rattle.board_service.specs.Listed.{LooksUp, Numbered, KnownName, ReadsName}

-- ---- looking up

module _ {count : ℕ} {lens highs lows : List ℕ} {n h l : ℕ} where
  -- the hint led to it
  pub looks_hinted : {k : ℕ} → k < count → Same lens highs lows n h l k → LooksUp count lens highs lows n h l (Some k)
  looks_hinted {k} b s =
      record {
        below = b;
        number = λ ns p d e w i j o.
            sym (event_number_lem ns k (omega (arith, p.counted)) d e (entry_told p k b w i j o s));
      }

-- ---- a name with its byte 10

module _ (t : List ℕ) (at : ℕ) where
  form_missing : name t at ≡ fail → name_form t at ≡ fail
  unfolding name_form
  form_missing e = rw e

  form_open : (w : Name) (m : ℕ) → name t at ≡ got w m → lit_bytes (bytes "\n") t m ≡ fail → name_form t at ≡ fail
  unfolding name_form
  form_open w m e f = rw (e, f)

  form_ended : (w : Name) (m next : ℕ) → name t at ≡ got w m → lit_bytes (bytes "\n") t m ≡ got tt next → name_form t at ≡ got w next
  unfolding name_form
  form_ended w m next e f = rw (e, f)

  form_on : (w : Name) (next : ℕ) → name_form t at ≡ got w next → (at < next) × (next ≤ length t)
  unfolding name_form
  form_on w next h =
      by (name t at) _ h λ v m e1 r1.
      by (lit_bytes (bytes "\n") t m) _ r1 λ x k e2 r2.
      let c : k ≡ next = cc in
      let i = moves_name.on t at v m e1 in
      let j = (moves_literal (bytes "\n") (omega arith)).on t m x k e2 in
      (omega arith, omega arith)

  module _ {count : ℕ} {lens highs lows : List ℕ} where
    pub reads_missing : name t at ≡ fail → ReadsName t at count lens highs lows None
    reads_missing e = record { found = inl (form_missing e) }

    module _ {f : NameAt} (g : GotName (name t at) f) where
      pub reads_open : lit_bytes (bytes "\n") t f.next ≡ fail → ReadsName t at count lens highs lows None
      reads_open e = record { found = inl (form_open g.name f.next g.read e) }

      module _ {next : ℕ} (e : lit_bytes (bytes "\n") t f.next ≡ got tt next) where
        numbered : {r : Option ℕ} → LooksUp count lens highs lows f.name.«len» f.name.high f.name.low r → Numbered t at count lens highs lows next (unwrap_or r count)
        numbered u =
            record {
              number = λ ns p d. (
                g.name,
                form_ended g.name f.next next g.read e,
                u.number ns p d g.name (name_sound t at g.name f.next g.read).0 (λ i. (g.told i).«len») (λ i. (g.told i).high) (λ i. (g.told i).low),
              );
            }

        pub reads_unknown : LooksUp count lens highs lows f.name.«len» f.name.high f.name.low None → ReadsName t at count lens highs lows None
        reads_unknown u = record { found = inr (next, numbered u) }

        pub reads_known : {k : ℕ} → LooksUp count lens highs lows f.name.«len» f.name.high f.name.low (Some k) → ReadsName t at count lens highs lows (Some (record { event = k; next = next }))
        reads_known u =
            let o = form_on g.name next (form_ended g.name f.next next g.read e) in
            record { found = record { low = u.below; later = o.0; inside = o.1; numbered = numbered u } }

-- ---- a name that is verified

module _ (t lens highs lows : List ℕ) (at count size h l k : ℕ) where
  pub verified : at + 17 ≤ length t → size ≤ 16 → Packs t at size h l → (p q : Bool) → (p ≡ true → Spans t (at + size) (10 ∷ []) (at + size + 1))
      → (q ≡ true → Same lens highs lows size h l k) → ((p && q) && ltb k count) ≡ true → KnownName t at count lens highs lows k (at + size + 1)
  unfolding is_name_byte is_letter is_capital is_digit
  verified room most packed p q cp cq e =
      let (e1, b) = both (p && q) (ltb k count) e in
      let (ep, eq) = both p q e1 in
      let c = ltb-true k count b in
      let d : size ≤ length (drop at t) = omega (arith, length-drop at t) in
      let z = cp ep in
      record {
        low = c;
        later = omega arith;
        inside = omega arith;
        numbered = record {
          number = λ ns r o.
              let w = part t at size in
              let (long, high, low) = entry_same r k c (cq eq) in
              let n = entry_name r k c in
              let v : OneEvent w (get_or ns k []) = packed.one (get_or ns k []) n long high low in
              let y : Spans t at w (at + size) = spans_part t at size (at + size) refl d in
              let x : drop at t ≡ w ++ (10 ∷ drop (at + size + 1) t) = y.bytes ∙ ap (λ (i : List ℕ). w ++ i) z.bytes in (
                w,
                form_ended t at w (at + size) (at + size + 1)
                    (name_complete w (one_name w (get_or ns k []) v n) t at (10 ∷ drop (at + size + 1) t) tt x ∙ ap (got w) (sym y.moved))
                    (lit_complete (bytes "\n") t (at + size) (drop (at + size + 1) t) z.bytes),
                sym (event_number_lem ns k (omega (arith, r.counted)) o w v),
              );
        };
      }
