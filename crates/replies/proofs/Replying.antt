-- What the words come to.
use Prim.Native.Nat.{ℕ, ◌-◌, ◌<◌}
use native.Mathlib.Omega.{arith}
use mathlib.Core.Path.{◌≡◌, refl, ap, sym, ◌∙◌}
use mathlib.Core.List.{List}
use lib.ListN.{length, take, drop}
use Rattle.std.specs.Prelude.{Option, Some, None, unwrap_or}
use Rattle.command_line.specs.declared.Service.{Service}
use Rattle.command_line.specs.declared.Service.TheVariants.{Check, Steps, Name, Run, Thin, Merge, Quote, Sheet, Board, Help, Explain, Unknown}
use Rattle.replies.specs.declared.Reply.{Reply}
use Rattle.replies.specs.declared.Reply.TheVariants as R
use Rattle.command_line.specs.WordRow.{words_in, WordCut}
use Rattle.command_line.specs.Program.{service_asked, further_words}
use Rattle.replies.specs.Replies.{refusal_said, wrong_word, help_asked, explanation_asked, reply_by, unless_wrong, reply_asked}
use Rattle.command_line.proofs.Cutting.{words_from, no_words, words, some_words, first_of}
use Rattle.command_line.proofs.Cutting as Cutting

-- ---- help and explanations

pub helps : (s : List ℕ) → length s ≡ 0 → R.Help ≡ help_asked (words_in s)
unfolding help_asked
helps s h = sym (ap help_asked (no_words s h))

pub shows_form : (s : List ℕ) → 0 < length s → R.TextForm ≡ help_asked (words_in s)
unfolding help_asked
shows_form s h = go (some_words s h)
  where
    go : Cutting.Some (words_in s) → R.TextForm ≡ help_asked (words_in s)
    go (words w ws e) = sym (ap help_asked e)

pub explains_nothing : (s : List ℕ) → length s ≡ 0 → R.Usage 2 ≡ explanation_asked (words_in s)
unfolding explanation_asked
explains_nothing s h = sym (ap explanation_asked (no_words s h))

pub explains : {s : List ℕ} {end : ℕ} → WordCut s 0 end → (length s ≡ 0 → ⊥) → {n : ℕ} → n ≡ unwrap_or (refusal_said (take end s)) 0 → R.Explanation n ≡ explanation_asked (words_in s)
unfolding explanation_asked
explains {s} {end} c h e = ap R.Explanation e ∙ sym (ap explanation_asked (first_of c (omega (arith, h))))

-- ---- all words

-- a service is asked for whose work is the library's: neither help nor an explanation
abbrev pub Serves : Service → Type 0
Serves a = ¬ (a ≡ Help) × ¬ (a ≡ Explain) × ¬ (a ≡ Unknown)

serves_by : (a : Service) (ws : List (List ℕ)) → Serves a → R.Service ≡ reply_by a ws
unfolding reply_by
serves_by Check ws k = refl
serves_by Steps ws k = refl
serves_by Name ws k = refl
serves_by Run ws k = refl
serves_by Thin ws k = refl
serves_by Merge ws k = refl
serves_by Quote ws k = refl
serves_by Sheet ws k = refl
serves_by Board ws k = refl
serves_by Help ws k = absurd (k.0 refl)
serves_by Explain ws k = absurd (k.1 refl)
serves_by Unknown ws k = absurd (k.2 refl)

module _ (s : List ℕ) {wrong : Option ℕ} (q : wrong ≡ wrong_word (words_in s)) where
  pub tells_wrong : {n : ℕ} → wrong ≡ Some n → R.Usage n ≡ reply_asked (words_in s)
  unfolding reply_asked unless_wrong
  tells_wrong e = rw (← q, e)

  module _ (h : wrong ≡ None) {a : Service} (p : a ≡ service_asked (words_in s)) where
    reply_of : {b : Service} → a ≡ b → reply_by b (further_words (words_in s)) ≡ reply_asked (words_in s)
    unfolding reply_asked unless_wrong
    reply_of e = rw (← q, h, ← p, e)

    pub unknown : a ≡ Unknown → R.Usage 1 ≡ reply_asked (words_in s)
    unfolding reply_by
    unknown e = reply_of e

    pub serves : Serves a → R.Service ≡ reply_asked (words_in s)
    serves k = serves_by a (further_words (words_in s)) k ∙ reply_of refl

    -- the further words are those from a place on
    module _ (at : ℕ) (f : words_in (drop at s) ≡ further_words (words_in s)) where
      pub help_called : {r : Reply} → a ≡ Help → r ≡ help_asked (words_in (take (length s - at) (drop at s))) → r ≡ reply_asked (words_in s)
      unfolding reply_by
      help_called e z = z ∙ ap help_asked (words_from s at f) ∙ reply_of e

      pub explain_called : {r : Reply} → a ≡ Explain → r ≡ explanation_asked (words_in (take (length s - at) (drop at s))) → r ≡ reply_asked (words_in s)
      unfolding reply_by
      explain_called e z = z ∙ ap explanation_asked (words_from s at f) ∙ reply_of e
