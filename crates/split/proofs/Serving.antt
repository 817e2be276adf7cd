-- Words of a service are answered, whatever the text.
use Prim.Native.Nat.{ℕ}
use mathlib.Core.Path.{◌≡◌, refl, sym}
use mathlib.Core.List.{List}
use Rattle.std.specs.Prelude.{Option, Some, None}
use Rattle.std.specs.Option.{IsSome}
use Rattle.command_line.specs.WordRow.{list_said, Lists}
use Rattle.command_line.specs.Program.{answer_to}
use Rattle.replies.specs.declared.Reply.TheVariants as R
use Rattle.replies.specs.Replies.{reply_asked}
use Rattle.replies.proofs.Serving.{served}

pub answered : (ws : List (List ℕ)) (s : List ℕ) {out : List ℕ} (r : Option ℕ) → reply_asked ws ≡ R.Service → Lists (answer_to ws s) r out → IsSome r
unfolding list_said
answered ws s None e l = absurd (served ws s e (sym l.list))
answered ws s (Some n) e l = refl
