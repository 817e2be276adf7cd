-- The moves of a line, one after another: one by its words or read quickly, and the loop over them.
use Prim.Native.Nat.{ℕ, ◌≤◌, ◌<◌}
use native.Mathlib.Omega.{arith}
use mathlib.Core.Path.{◌≡◌, refl, ap, sym, ◌∙◌, subst}
use mathlib.Core.Bool.{Bool, true, false, not}
use lib.Dec.{T, T_not}
use mathlib.Core.List.{List, []}
use mathlib.Core.Option.{Option, none, some}
use lib.ListN.{length, get_or}
use Rattle.model.specs.TransitionSystem.{and_then}
use Rattle.model.specs.Bytes.{Name, OneEvent}
use Rattle.model.specs.Reading.{Parsed, fail, got, many}
use Rattle.model.specs.Text.{event_number}
use Rattle.model.specs.Sheet.{NamedMove, written_move, move_form}
use Rattle.model.specs.Board.{add_name}
use Rattle.model.proofs.SheetForms.{MoveFormed, move_sound, move_positive}
use Rattle.lexer.proofs.Loops.{Moves, many_more, many_none}
use Rattle.lexer.proofs.Moves.{moves_written}
use Rattle.names.proofs.Lookup.{event_number_lem}
use Rattle.quick_move.specs.Quick as Quick
use Rattle.std.specs.Prelude.{Some, None, Result, Ok, Err}
use Rattle.std.specs.Prelude as Std
use Rattle.lexer.proofs.Answers.{word_missing, word_got}
use Rattle.sheet_lines.specs.declared.MoveLine.{MoveLine}
use Rattle.sheet_lines.specs.Moves.{move_line, as_move}
use Rattle.sheet_reader.specs.declared.moves.BadLine.{BadLine}
use Rattle.sheet_reader.specs.BoardRows.{Rows, store_move, store_moves}
use Rattle.sheet_reader.specs.Lent.{Lent, lent_rows, rows_of, Held, Holding, HoldsRows}
use Rattle.sheet_reader.specs.Storing.{StoresMove, Leaves, IsWord, move_of, AddsMove, MoveLeft, ReadsMove, LeavesMoves, ReadsMoves}
use Rattle.sheet_reader.proofs.Adding.{store_none, store_some, name_known}

not_both : ◌≡◌ {A = Bool} true false → ⊥
not_both z = T_not true (subst (λ (b : Bool). T (not b)) (sym z) tt) tt

moves_move : Moves move_form
moves_move = moves_written move_form written_move MoveFormed move_sound (λ x o. move_positive x)

-- ---- a move by its words

-- the move that the code has read
pub record GotMove (s : List ℕ) (i : ℕ) (x : MoveLine) : Type 0 where
  pub event : Name
  pub word : IsWord x event
  pub read : move_form s i ≡ got (move_of event x) x.next

pub move_missing : {r : Std.Option MoveLine} (o : Parsed NamedMove) → r ≡ as_move o → r ≡ None → o ≡ fail
unfolding as_move
move_missing = word_missing move_line

pub move_got : {r : Std.Option MoveLine} {x : MoveLine} (s : List ℕ) (i : ℕ) → r ≡ as_move (move_form s i) → r ≡ Some x → GotMove s i x
unfolding as_move move_line
move_got s i p q =
    let (y, n, e, h) = word_got move_line (move_form s i) p q in
    record {
      event = y.event;
      word = record {
        name = (move_sound s i y n e).0.event;
        long = ap (λ (v : MoveLine). v.name.«len») (sym h);
        high = ap (λ (v : MoveLine). v.name.«high») (sym h);
        low = ap (λ (v : MoveLine). v.name.«low») (sym h);
      };
      read = e ∙ ap (λ (v : MoveLine). got (record { event = y.event; pre = v.pre; post = v.post }) v.next) h;
    }

module _ {s : List ℕ} {at m n count : ℕ} {t : Lent} where
  pub words_missing : count ≤ 64 → move_form s at ≡ fail → ReadsMove s at m n count t (Ok None) count t
  unfolding MoveLeft
  words_missing few e = record { most = few; left = λ ns h. (e, record { held = h; pre = refl; post = refl }) }

  module _ {x : MoveLine} (g : GotMove s at x) {r : Bool} {c : ℕ} {u : Lent} (a : AddsMove m n count t x r c u) (most : c ≤ 64) where
    pub words_bad : {b : BadLine} → r ≡ false → ReadsMove s at m n count t (Err b) c u
    unfolding MoveLeft Leaves
    words_bad f =
        record {
          most = most;
          left = λ ns h. go ns (store_move m n (rows_of ns t) (move_of g.event x)) refl (a.leaves ns g.event h g.word);
        }
      where
        go : (ns : List Name) (o : Option Rows) → store_move m n (rows_of ns t) (move_of g.event x) ≡ o → Leaves o r c u
            → (y : NamedMove) × (next : ℕ) × (move_form s at ≡ got y next) × (store_move m n (rows_of ns t) y ≡ none)
        go ns none q l = (move_of g.event x, x.next, g.read, q)
        go ns (some v) q l = absurd (not_both (sym l.0 ∙ f))

    pub words_stored : r ≡ true → ReadsMove s at m n count t (Ok (Some x.next)) c u
    unfolding MoveLeft Leaves
    words_stored f =
        record {
          most = most;
          left = λ ns h. go ns (store_move m n (rows_of ns t) (move_of g.event x)) refl (a.leaves ns g.event h g.word);
        }
      where
        go : (ns : List Name) (o : Option Rows) → store_move m n (rows_of ns t) (move_of g.event x) ≡ o → Leaves o r c u
            → (y : NamedMove) × (w : Rows) × (move_form s at ≡ got y x.next) × (store_move m n (rows_of ns t) y ≡ some w) × HoldsRows w c u
        go ns none q l = absurd (not_both (sym f ∙ l))
        go ns (some v) q l = (move_of g.event x, v, g.read, q, l.1)

  -- ---- a move read quickly

  module _ {k p q next : ℕ} (g : Quick.ReadsMove s at count t.lens t.highs t.lows k p q next) (few : count ≤ 64)
      {r : Bool} {pre post : List ℕ} (a : StoresMove m n k p q t.pre t.post r pre post) where
    low : k < 64
    low = omega (arith, g.event)

    own : (ns : List Name) → Held ns count t → (w : Name) → OneEvent w (get_or ns k []) → k ≡ event_number ns w
    own ns h w o = sym (event_number_lem ns k (omega (arith, g.event, h.packed.counted)) h.once w o)

    pub quick_bad : {b : BadLine} → r ≡ false → (u : Lent) → ReadsMove s at m n count t (Err b) count u
    unfolding MoveLeft
    quick_bad f u =
        record {
          most = few;
          left = λ ns h. let (w, o, read) = g.move ns h.packed in (record { event = w; pre = p; post = q }, next, read, store_none a low ns w (own ns h w o) f);
        }

    pub quick_stored : r ≡ true → ReadsMove s at m n count t (Ok (Some next)) count (lent_rows t.lens t.highs t.lows pre post)
    unfolding MoveLeft
    quick_stored f =
        record {
          most = few;
          left = λ ns h.
              let (w, o, read) = g.move ns h.packed in
              let k = own ns h w o in (
                record { event = w; pre = p; post = q },
                record { names = add_name ns w; pre = pre; post = post },
                read,
                store_some a low ns w k f,
                record { held = same ns h w k; pre = refl; post = refl },
              );
        }
      where
        same : (ns : List Name) → Held ns count t → (w : Name) → k ≡ event_number ns w → Held (add_name ns w) count (lent_rows t.lens t.highs t.lows pre post)
        same ns h w z =
            subst (λ (l : List Name). Held l count (lent_rows t.lens t.highs t.lows pre post))
            (sym (name_known ns w (omega (arith, z, g.event, h.packed.counted))))
            (record { packed = h.packed; once = h.once })

-- ---- the loop

-- it has c names and the rows u, and stands at i
pub record Moving (s : List ℕ) (at m n count : ℕ) (t : Lent) (i c : ℕ) (u : Lent) : Type 0 where
  pub most : c ≤ 64
  pub holding : Holding c u
  pub held : (ns : List Name) → Held ns count t
      → (v : Rows) × HoldsRows v c u × (store_moves m n (rows_of ns t) (many move_form s at).0 ≡ store_moves m n v (many move_form s i).0)
      × ((many move_form s at).1 ≡ (many move_form s i).1)

pub moving_start : {s : List ℕ} {at m n count : ℕ} {t : Lent} → count ≤ 64 → Holding count t → Moving s at m n count t at count t
moving_start {t = t} h k = record { most = h; holding = k; held = λ ns r. (rows_of ns t, record { held = r; pre = refl; post = refl }, refl, refl) }

module _ {s : List ℕ} {at m n count : ℕ} {t : Lent} {i c : ℕ} {u : Lent} (inv : Moving s at m n count t i c u) {r : Result (Std.Option ℕ) BadLine} {d : ℕ} {w : Lent}
    (a : ReadsMove s i m n c u r d w) where
  -- what is there, by the names and moves that the rows hold
  found : (q : Result (Std.Option ℕ) BadLine) → r ≡ q → (v : Rows) → HoldsRows v c u → MoveLeft (move_form s i) m n v q d w
  found q e v h =
      let same : rows_of v.names u ≡ v = λ j. record { names = v.names; pre = h.pre j; post = h.post j } in
      subst (λ (z : Rows). MoveLeft (move_form s i) m n z q d w) same
      (subst (λ (z : Result (Std.Option ℕ) BadLine). MoveLeft (move_form s i) m n (rows_of v.names u) z d w) e (a.left v.names h.held))

  -- by those that they hold for certain
  here : (q : Result (Std.Option ℕ) BadLine) → r ≡ q → MoveLeft (move_form s i) m n (rows_of inv.holding.names u) q d w
  here q e = found q e (rows_of inv.holding.names u) (record { held = inv.holding.held; pre = refl; post = refl })

  pub moving_end : r ≡ Ok None → ReadsMoves s at m n count t (Ok i) d w
  unfolding LeavesMoves store_moves MoveLeft
  moving_end e =
      record {
        most = a.most;
        leaves = λ ns h.
            let (v, o, p, q) = inv.held ns h in
            let (z, k) = found (Ok None) e v o in
            let y = many_none moves_move s i z in
            subst (λ (x : Option Rows). LeavesMoves x (many move_form s at).1 (Ok i) d w)
            (sym (p ∙ ap (λ (x : List NamedMove × ℕ). store_moves m n v x.0) y))
            (ap Ok (sym (q ∙ ap (λ (x : List NamedMove × ℕ). x.1) y)), k);
      }

  -- what is stored from here on
  from_here : (v : Rows) (x : NamedMove) (next : ℕ) → move_form s i ≡ got x next
      → store_moves m n v (many move_form s i).0 ≡ and_then (store_move m n v x) (λ z. store_moves m n z (many move_form s next).0)
  unfolding store_moves
  from_here v x next e = ap (λ (p : List NamedMove × ℕ). store_moves m n v p.0) (many_more moves_move s i x next e)

  pub moving_bad : {b : BadLine} → r ≡ Err b → ReadsMoves s at m n count t (Err b) d w
  unfolding LeavesMoves MoveLeft and_then
  moving_bad {b} e =
      record {
        most = a.most;
        leaves = λ ns h.
            let (v, o, p, q) = inv.held ns h in
            let (x, next, f, y) = found (Err b) e v o in
            subst (λ (z : Option Rows). LeavesMoves z (many move_form s at).1 (Err b) d w)
            (sym (p ∙ from_here v x next f ∙ ap (λ (z : Option Rows). and_then z (λ z. store_moves m n z (many move_form s next).0)) y))
            refl;
      }

  module _ {next : ℕ} (e : r ≡ Ok (Some next)) where
    pub move_on_lem : (i < next) × (next ≤ length s)
    unfolding MoveLeft
    move_on_lem = let (x, v, f, y, h) = here (Ok (Some next)) e in moves_move.on s i x next f

    pub moving_more : Moving s at m n count t next d w
    unfolding MoveLeft and_then
    moving_more =
        let (x₀, v₀, f₀, y₀, h₀) = here (Ok (Some next)) e in
        record {
          most = a.most;
          holding = record { names = v₀.names; held = h₀.held };
          held = λ ns h.
              let (v, o, p, q) = inv.held ns h in
              let (x, z, f, y, l) = found (Ok (Some next)) e v o in (
                z,
                l,
                p ∙ from_here v x next f ∙ ap (λ (j : Option Rows). and_then j (λ z. store_moves m n z (many move_form s next).0)) y,
                q ∙ ap (λ (j : List NamedMove × ℕ). j.1) (many_more moves_move s i x next f),
              );
        }
