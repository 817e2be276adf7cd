-- What the words of the program come to: which of them is wrong, or what they ask for. All of it is believed; `served` and `unserved` (proofs/Serving) join it to what the program answers.
use Rattle.std.specs.Prelude.{ℕ, ◌+◌, Bool, true, false, ◌&&◌, ◌||◌, cond, List, [], ◌∷◌, leb, eqb, Option, Some, None, is_some, unwrap_or}
use Rattle.model.specs.Bytes.{bytes, decimal}
use Rattle.command_line.specs.declared.Service.{Service}
use Rattle.command_line.specs.declared.Service.TheVariants.{Check, Steps, Name, Run, Thin, Merge, Quote, Sheet, Board, Help, Explain, Unknown}
use Rattle.replies.specs.declared.Reply.{Reply}
use Rattle.replies.specs.declared.Reply.TheVariants as R
use Rattle.command_line.specs.Words.{same_word, is_numeral, is_name_word}
use Rattle.command_line.specs.Program.{service_asked, further_words}

-- documents 01 and 02 have refusals 1 to 15
unfoldable pub is_refusal : ℕ → Bool
is_refusal n = leb 1 n && leb n 15

-- their names there, the first word of each
abbrev pub refusal_names : List (List ℕ)
refusal_names =
    bytes "misformed"
    ∷ bytes "oversize"
    ∷ bytes "stranger"
    ∷ bytes "standstill"
    ∷ bytes "fork"
    ∷ bytes "idle"
    ∷ bytes "unreached"
    ∷ bytes "doubled"
    ∷ bytes "missing"
    ∷ bytes "uneven"
    ∷ bytes "unheld"
    ∷ bytes "open"
    ∷ bytes "short"
    ∷ bytes "odd"
    ∷ bytes "bad"
    ∷ []

-- the number of a word among others, which are counted from n
unfoldable pub number_from : ℕ → List ℕ → List (List ℕ) → Option ℕ
number_from n w [] = None
number_from n w (v ∷ vs) = cond (same_word w v) (Some n) (number_from (n + 1) w vs)

-- the refusal that a word says by its number or its name
unfoldable pub refusal_said : List ℕ → Option ℕ
refusal_said w = cond (is_numeral w) (cond (is_refusal (decimal w)) (Some (decimal w)) None) (number_from 1 w refusal_names)

-- what says an event of some text
unfoldable pub says_event : List ℕ → Bool
says_event w = is_name_word w || is_numeral w

-- the refusal, and behind it its two details
unfoldable pub takes_after_explain : ℕ → List ℕ → Bool
takes_after_explain k w = cond (eqb k 0) (is_some (refusal_said w)) (leb k 2 && is_numeral w)

-- whether the service takes this as the kth word after it, counted from 0; a board is handed any word, and refuses by 14 what it does not know
unfoldable pub takes : Service → ℕ → List ℕ → Bool
takes Check k w = eqb k 0 && is_numeral w
takes Steps k w = eqb k 0 && is_numeral w
takes Name k w = eqb k 0 && says_event w
takes Run k w = says_event w
takes Thin k w = false
takes Merge k w = eqb k 0 && is_numeral w
takes Quote k w = eqb k 0 && is_numeral w
takes Sheet k w = eqb k 0 && is_numeral w
takes Board k w = true
takes Help k w = eqb k 0 && same_word w (bytes "text")
takes Explain k w = takes_after_explain k w
takes Unknown k w = false

-- how many words the service takes at least
unfoldable pub least_words : Service → ℕ
least_words Check = 0
least_words Steps = 0
least_words Name = 1
least_words Run = 0
least_words Thin = 0
least_words Merge = 0
least_words Quote = 0
least_words Sheet = 0
least_words Board = 0
least_words Help = 0
least_words Explain = 1
least_words Unknown = 0

-- the first word that the service does not take, from the kth after it on, or the one that is missing, by its number on the command line
unfoldable pub wrong_from : Service → ℕ → List (List ℕ) → Option ℕ
wrong_from a k [] = cond (leb (least_words a) k) None (Some (k + 2))
wrong_from a k (w ∷ ws) = cond (takes a k w) (wrong_from a (k + 1) ws) (Some (k + 2))

unfoldable pub is_unknown : Service → Bool
is_unknown Check = false
is_unknown Steps = false
is_unknown Name = false
is_unknown Run = false
is_unknown Thin = false
is_unknown Merge = false
is_unknown Quote = false
is_unknown Sheet = false
is_unknown Board = false
is_unknown Help = false
is_unknown Explain = false
is_unknown Unknown = true

-- the service is word 1
unfoldable pub wrong_word : List (List ℕ) → Option ℕ
wrong_word ws = cond (is_unknown (service_asked ws)) (Some 1) (wrong_from (service_asked ws) 0 (further_words ws))

unfoldable pub help_asked : List (List ℕ) → Reply
help_asked [] = R.Help
help_asked (w ∷ ws) = R.TextForm

-- 0, where the word says no refusal, explains nothing
unfoldable pub explanation_asked : List (List ℕ) → Reply
explanation_asked [] = R.Usage 2
explanation_asked (w ∷ ws) = R.Explanation (unwrap_or (refusal_said w) 0)

-- of words that are right; what has no service, or no refusal to explain, is wrong before this is asked
unfoldable pub reply_by : Service → List (List ℕ) → Reply
reply_by Check ws = R.Service
reply_by Steps ws = R.Service
reply_by Name ws = R.Service
reply_by Run ws = R.Service
reply_by Thin ws = R.Service
reply_by Merge ws = R.Service
reply_by Quote ws = R.Service
reply_by Sheet ws = R.Service
reply_by Board ws = R.Service
reply_by Help ws = help_asked ws
reply_by Explain ws = explanation_asked ws
reply_by Unknown ws = R.Usage 1

-- a word is wrong, or none
unfoldable pub unless_wrong : Option ℕ → Reply → Reply
unless_wrong None r = r
unless_wrong (Some n) r = R.Usage n

-- what the words come to: a word is wrong, and the line of usage says which; what `help` or `explain` says; or a service, which alone reads the text
unfoldable pub reply_asked : List (List ℕ) → Reply
reply_asked ws = unless_wrong (wrong_word ws) (reply_by (service_asked ws) (further_words ws))
