-- What words come to, by computation.
use Rattle.std.specs.Prelude.{◌≡◌, refl, [], ◌∷◌, map, Some}
use Rattle.model.specs.Lists.{every}
use Rattle.model.specs.Bytes.{bytes, is_digit, is_letter, is_capital, lower, is_name_byte, is_name}
use Rattle.command_line.specs.Words.{service_said, is_numeral, is_name_word}
use Rattle.command_line.specs.Program.{service_asked, further_words}
use Rattle.replies.specs.declared.Reply.TheVariants as R
use Rattle.replies.specs.Replies.{is_refusal, refusal_names, number_from, refusal_said, says_event, takes_after_explain, takes, least_words, wrong_from, is_unknown, wrong_word, help_asked, explanation_asked, reply_by, unless_wrong, reply_asked}

pub record RepliesToWords : Type 0 where
  pub helped : reply_asked (bytes "help" ∷ []) ≡ R.Help
  pub helped_text : reply_asked (bytes "help" ∷ bytes "text" ∷ []) ≡ R.TextForm
  pub helped_more : reply_asked (bytes "help" ∷ bytes "check" ∷ []) ≡ R.Usage 2
  pub explained : reply_asked (bytes "explain" ∷ bytes "14" ∷ []) ≡ R.Explanation 14
  pub explained_name : reply_asked (bytes "explain" ∷ bytes "open" ∷ []) ≡ R.Explanation 12
  pub explained_details : reply_asked (bytes "explain" ∷ bytes "12" ∷ bytes "0" ∷ bytes "2" ∷ []) ≡ R.Explanation 12
  pub explained_none : reply_asked (bytes "explain" ∷ []) ≡ R.Usage 2
  pub explained_0 : reply_asked (bytes "explain" ∷ bytes "0" ∷ []) ≡ R.Usage 2
  pub explained_16 : reply_asked (bytes "explain" ∷ bytes "16" ∷ []) ≡ R.Usage 2
  pub explained_three : reply_asked (bytes "explain" ∷ bytes "1" ∷ bytes "2" ∷ bytes "3" ∷ bytes "4" ∷ []) ≡ R.Usage 5
  pub unknown : reply_asked (bytes "chek" ∷ bytes "5" ∷ []) ≡ R.Usage 1
  pub unnamed : reply_asked (bytes "name" ∷ []) ≡ R.Usage 2
  pub no_event : reply_asked (bytes "run" ∷ bytes "ready" ∷ bytes "brake_2" ∷ []) ≡ R.Usage 3
  pub first_of_two : reply_asked (bytes "run" ∷ bytes "Ready@" ∷ bytes "[Brake" ∷ []) ≡ R.Usage 2
  -- an event may be in capitals, a service or the name of a refusal may not
  pub in_capitals : reply_asked (bytes "run" ∷ bytes "READY" ∷ bytes "Brake" ∷ []) ≡ R.Service
  pub unknown_in_capitals : reply_asked (bytes "Run" ∷ bytes "ready" ∷ []) ≡ R.Usage 1
  pub explained_in_capitals : reply_asked (bytes "explain" ∷ bytes "Open" ∷ []) ≡ R.Usage 2
  pub each_name : map refusal_said refusal_names ≡ map Some (1 ∷ 2 ∷ 3 ∷ 4 ∷ 5 ∷ 6 ∷ 7 ∷ 8 ∷ 9 ∷ 10 ∷ 11 ∷ 12 ∷ 13 ∷ 14 ∷ 15 ∷ [])
  pub no_merge : reply_asked (bytes "merge" ∷ bytes "ready" ∷ []) ≡ R.Usage 2
  pub merged : reply_asked (bytes "merge" ∷ bytes "144" ∷ []) ≡ R.Service
  pub no_quote : reply_asked (bytes "quote" ∷ bytes "ready" ∷ []) ≡ R.Usage 2
  pub quoted : reply_asked (bytes "quote" ∷ bytes "81" ∷ []) ≡ R.Service
  pub no_size : reply_asked (bytes "sheet" ∷ bytes "ready" ∷ []) ≡ R.Usage 2
  pub any_name : reply_asked (bytes "board" ∷ bytes "Ready" ∷ [] ∷ []) ≡ R.Service
  pub served : reply_asked (bytes "run" ∷ bytes "ready" ∷ bytes "1" ∷ []) ≡ R.Service

pub replies : RepliesToWords
unfolding every is_digit is_letter is_capital lower is_name_byte is_name service_said is_numeral is_name_word service_asked further_words is_refusal number_from refusal_said says_event takes_after_explain takes least_words
    wrong_from is_unknown wrong_word help_asked explanation_asked reply_by unless_wrong reply_asked
replies =
    record {
      helped = refl;
      helped_text = refl;
      helped_more = refl;
      explained = refl;
      explained_name = refl;
      explained_details = refl;
      explained_none = refl;
      explained_0 = refl;
      explained_16 = refl;
      explained_three = refl;
      unknown = refl;
      unnamed = refl;
      no_event = refl;
      first_of_two = refl;
      in_capitals = refl;
      unknown_in_capitals = refl;
      explained_in_capitals = refl;
      each_name = refl;
      no_merge = refl;
      merged = refl;
      no_quote = refl;
      quoted = refl;
      no_size = refl;
      any_name = refl;
      served = refl;
    }
