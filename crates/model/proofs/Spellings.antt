-- Slip 5 of document 02: when two names are one event, in other words; and a text with its steps spelt in other ways is answered as before.
use Prim.Native.Nat.{ℕ, zero, suc, ◌+◌, ◌≤◌, ◌<◌}
use native.Mathlib.Omega.{arith}
use mathlib.Core.Path.{◌≡◌, refl, ap, sym, ◌∙◌, subst}
use mathlib.Core.Logic.{◌⊎◌, inl, inr}
use mathlib.Core.List.{List, [], ◌∷◌, ◌++◌, flat_map, append_assoc}
use mathlib.Core.Option.{none-ne-some, some-injective, some}
use lib.Dec.{leb, leb→le}
use lib.ListN.{length, length-append}
use Rattle.model.specs.Lists.{At, Pairwise}
use Rattle.model.specs.Refusal.{refusal_of, refuse, refused}
use Rattle.model.specs.Bytes.{Name, Letter}
use Rattle.model.specs.Form.{Line, states, events, step, machine, written, Respelt}
use Rattle.model.specs.Text.{read, line_two, name_at}
use Rattle.model.specs.Services.{as_far_as7, as_far_as10, as_far_as12, check, printed, steps, name, name_refusal, run, thin, merge, quote}
use Rattle.model.specs.Spelling.{SameButCase, OneEventLaws, RespeltText, AnsweredAlike}
use Rattle.model.proofs.Laws.{order, T_false, not_T}
use Rattle.model.proofs.LineEnds.{line_two_lem}
use Rattle.model.proofs.OneEvent.{one_case, case_one, one_of, of_one, one_refl, one_sym, one_trans, one_name, stays}
use Rattle.model.proofs.Chains.{Each, Proper, Begun, begun}
use Rattle.model.proofs.Texts.{respelt_bytes}
use Rattle.model.proofs.Alike.{respelt_alike}
use Rattle.model.proofs.AlikeTexts.{alike_read}

-- ---- names

stays_at : (e f : Name) → Pairwise SameButCase e f → (i b : ℕ) → ¬ Letter b → At e i b → At f i b
stays_at [] f p i b n a = absurd (none-ne-some b a)
stays_at (x ∷ e) [] p i b n a = absurd p
stays_at (x ∷ e) (y ∷ f) p zero b n a =
    let q : x ≡ b = some-injective x b a in
    ap some (sym (stays x y p.0 (subst (λ (z : ℕ). ¬ Letter z) (sym q) n)) ∙ q)
stays_at (x ∷ e) (y ∷ f) p (suc i) b n a = stays_at e f p.1 i b n a

pub one_event_holds : (e f : Name) → OneEventLaws e f
one_event_holds e f =
    record {
      only_case = (one_case e f, case_one e f);
      name = one_name e f;
      others_stay = λ o. stays_at e f (one_case e f o);
      reflexive = one_refl e;
      symmetric = one_sym e f;
      transitive = one_trans e f;
      tested = (one_of e f, of_one e f);
    }

-- ---- texts

module _ (s t : List ℕ) (r : RespeltText s t) where
  b : Begun s r.lines r.rest
  b = begun s r.lines r.rest r.begins

  as_long : length s ≡ length t
  as_long =
      ap length b.bytes
      ∙ length-append (flat_map written r.lines) r.rest
      ∙ ap (λ (n : ℕ). n + length r.rest) (respelt_bytes r.lines r.others r.respelt)
      ∙ sym (length-append (flat_map written r.others) r.rest)
      ∙ ap length (sym r.bytes)

  same_read : read s ≡ read t
  unfolding read
  same_read = go (order 32768 (length s))
    where
      too_long : (u : List ℕ) → 32768 < length u → read u ≡ refused (refuse 2 0 0)
      too_long u h = rw (T_false (leb (length u) 32768) (not_T (leb (length u) 32768) (λ x. omega (arith, leb→le (length u) 32768 x)))) refl

      go : (32768 < length s) ⊎ (length s ≤ 32768) → read s ≡ read t
      go (inl h) = too_long s h ∙ sym (too_long t (omega (arith, as_long)))
      go (inr h) =
          alike_read s t
          (record {
            lines = r.lines;
            others = r.others;
            rest = r.rest;
            good = b.good;
            alike = respelt_alike r.lines r.others r.respelt;
            left = b.bytes;
            right = r.bytes;
          })
          h (omega (arith, as_long))

  -- line 1 has no other spelling
  same_line_two : line_two s ≡ line_two t
  unfolding flat_map
  same_line_two = go r.lines r.others b.good r.respelt b.bytes r.bytes
    where
      go : (ls ks : List Line) → Each Proper [] ls → Pairwise Respelt ls ks → s ≡ flat_map written ls ++ r.rest → t ≡ flat_map written ks ++ r.rest → line_two s ≡ line_two t
      go [] [] c p e f = ap line_two (e ∙ sym f)
      go [] (k ∷ ks) c p e f = absurd p
      go (l ∷ ls) [] c p e f = absurd p
      go (states n o ∷ ls) (k ∷ ks) c p e f =
          ap line_two (e ∙ append_assoc (written (states n o)) (flat_map written ls) r.rest)
          ∙ line_two_lem n o c.0.formed.0 c.0.formed.1 (flat_map written ls ++ r.rest)
          ∙ sym (ap line_two (f ∙ ap (λ (x : Line). flat_map written (x ∷ ks) ++ r.rest) p.0 ∙ append_assoc (written (states n o)) (flat_map written ks) r.rest)
          ∙ line_two_lem n o c.0.formed.0 c.0.formed.1 (flat_map written ks ++ r.rest))
      go (events es ∷ ls) (k ∷ ks) c p e f = absurd (omega (arith, c.0.follows))
      go (step x y z ∷ ls) (k ∷ ks) c p e f = absurd (omega (arith, c.0.follows.0))
      go (machine ps ∷ ls) (k ∷ ks) c p e f = absurd (omega (arith, c.0.follows))

  same_7 : as_far_as7 s ≡ as_far_as7 t
  unfolding as_far_as7
  same_7 = rw same_read refl

  same_12 : as_far_as12 s ≡ as_far_as12 t
  unfolding as_far_as12 as_far_as10
  same_12 = rw same_7 refl

  same_name_lem : (e : ℕ) → name s e ≡ name t e
  unfolding name name_at
  same_name_lem e = rw (same_7, same_line_two) refl

  pub respelling_holds : AnsweredAlike s t
  unfolding check printed steps name_refusal run thin merge quote
  respelling_holds =
      record {
        reading = same_read;
        checking = λ out. rw same_12 refl;
        printing = rw same_12 refl;
        listing = λ out. rw same_7 refl;
        naming = same_name_lem;
        name_refusing = λ e. ap refusal_of (same_name_lem e);
        running = λ es. rw same_12 refl;
        thinning = rw same_12 refl;
        merging = λ out. rw same_12 refl;
        quoting = λ out. rw same_12 refl;
      }
