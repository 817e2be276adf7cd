-- The calls on a sheet, by their ways out.
use Rattle.std.specs.Prelude.{Result, Ok, Err}
use Rattle.model.specs.declared.Refusal as R
use Prim.Native.Nat.{ℕ, ◌<◌, ◌≤◌}
use native.Mathlib.Omega.{arith}
use mathlib.Core.Path.{◌≡◌, refl, ap, sym, ◌∙◌}
use mathlib.Core.List.{List}
use lib.ListN.{length}
use lib.Seq.{sets}
use Rattle.model.specs.declared.Refusal.TheVariants.{BadSheet, BufferTooShort}
use Rattle.model.specs.Cases.{tabled}
use Rattle.model.specs.Refusal.{Checked, refused, passed}
use Rattle.model.specs.Sheet.{Board}
use Rattle.model.specs.Services.{ran_answer, lend}
use Rattle.model.specs.Board.{read_sheet, rewrite, start_places, board_run}
use Rattle.model.proofs.BoardCalls.{loading}
use Rattle.model.proofs.Verdicts.{refused_passed, same_passed}
use Rattle.rows.specs.Rows.{row}
use Rattle.sheet_reader.specs.Lent.{Lent}
use Rattle.sheet_reader.specs.Sheets.{SheetLeft, ReadsSheet}
use Rattle.answers.specs.Answers.{answered}
use Rattle.answers.proofs.Lending.{lends_short, lends_written}
use Rattle.product.specs.declared.RunAnswer as D
use Rattle.product.specs.Answers.{run_answer}
use Rattle.board_service.specs.Boards.{Loaded, RunsNames, RunsBoard}

-- ---- what was read

pub bad_read : {s : List ℕ} {count : ℕ} {u : Lent} {places : List ℕ} {why : R.Refusal} → ReadsSheet s (Err why) count u places → read_sheet s ≡ refused (tabled why)
unfolding SheetLeft tabled
bad_read {s} {count} {u} {places} {why} a = go (read_sheet s) a.left
  where
    go : (c : Checked Board) → SheetLeft c (Err why) count u places → c ≡ refused (tabled why)
    go (refused v) (l, e, f) = let z : why ≡ BadSheet l = cc in rw z (ap {B = Checked Board} refused f)
    go (passed b) (e, few, many, told, starts) = cc

-- the machines of a good sheet
pub record GoodRead (s : List ℕ) (machines count : ℕ) (u : Lent) (places : List ℕ) : Type 0 where
  pub board : Board
  pub read : read_sheet s ≡ passed board
  pub counted : machines ≡ length board
  pub few : machines ≤ 16
  pub names : count ≤ 64
  pub loaded : Loaded board count u
  pub starts : places ≡ row 16 0 (start_places board)

pub good_read : {s : List ℕ} {machines count : ℕ} {u : Lent} {places : List ℕ} → ReadsSheet s (Ok machines) count u places → GoodRead s machines count u places
unfolding SheetLeft
good_read {s} {machines} {count} {u} {places} a = go (read_sheet s) refl a.left
  where
    go : (c : Checked Board) → read_sheet s ≡ c → SheetLeft c (Ok machines) count u places → GoodRead s machines count u places
    go (refused v) h (l, e, f) = cc
    go (passed b) h (e, few, many, told, starts) =
        let m : length b ≡ machines = cc in
        record {
          board = b;
          read = h;
          counted = sym m;
          few = omega arith;
          names = many;
          loaded = record { sheet = s; says = ((loading s).accepts b).0 h; told = told };
          starts = starts;
        }

-- ---- the run

pub board_bad : (s t : List ℕ) (why : R.Refusal) → read_sheet s ≡ refused (tabled why) → {r : D.RunAnswer} → run_answer r ≡ ran_answer (refused (tabled why))
    → RunsBoard s t 0 r
unfolding board_run
board_bad s t why e q =
    record {
      runs = rw e q;
      counted = λ b f. absurd (refused_passed (tabled why) b (sym e ∙ f));
      no_machines_lem = λ q f. refl;
    }

pub board_good : {s : List ℕ} {machines count : ℕ} {u : Lent} {places : List ℕ} → GoodRead s machines count u places → (t : List ℕ) {r : D.RunAnswer}
    → RunsNames t machines count u places (run_answer r) → RunsBoard s t machines r
unfolding board_run
board_good g t f =
    record {
      runs = rw g.read (f.runs g.board g.loaded g.counted g.starts);
      counted = λ b h. g.counted ∙ ap length (same_passed g.board b (sym g.read ∙ h));
      no_machines_lem = λ q h. absurd (refused_passed q g.board (sym h ∙ g.read));
    }

-- ---- the machines written again

abbrev Rewrites : List ℕ → List ℕ → Result ℕ R.Refusal → List ℕ → Type 0
Rewrites s out a left = (answered a ≡ (rewrite s out).answer) × (left ≡ (rewrite s out).left)

pub sheet_bad : (s out : List ℕ) (why : R.Refusal) → read_sheet s ≡ refused (tabled why) → Rewrites s out (Err why) out
unfolding answered rewrite lend
sheet_bad s out why e = rw e (refl, refl)

module _ {s : List ℕ} {machines count : ℕ} {u : Lent} {places : List ℕ} (g : GoodRead s machines count u places) (out : List ℕ) where
  -- the machines write the sheet's own bytes
  own : rewrite s out ≡ lend (passed s) out
  unfolding rewrite
  own = rw g.read (ap (λ (x : List ℕ). lend (passed x) out) (sym (((loading s).accepts g.board).0 g.read).0))

  pub sheet_short : length out < length s → Rewrites s out (Err (BufferTooShort (length s))) out
  sheet_short l = rw own (lends_short out s (length s) refl l)

  pub sheet_written : (left : List ℕ) → length s ≤ length out → left ≡ sets out 0 s → Rewrites s out (Ok (length s)) left
  sheet_written left l w = rw own (lends_written out s (length s) refl left l w)
