-- The rows tell the names that they hold, but for their case.
use Rattle.std.proofs.Common.{◌≡◌, ℕ, ◌<◌, true, ◌&&◌, eqb, List, [], length, get_or, sym, ap, ◌∙◌, arith, eqb-true}
use Rattle.model.specs.Lists.{At}
use Rattle.model.specs.Bytes.{Name, IsName, OneEvent}
use Rattle.model.proofs.Laws.{both}
use Rattle.model.proofs.Positions.{at_get_d, get_d_mem}
use Rattle.lexer.specs.Words.{high, low}
use Rattle.lexer.proofs.Telling.{told_one}
use Rattle.rows.proofs.Rows.{row_at}
use Rattle.names.specs.Held.{PackedNames, Same}

module _ {es : List Name} {count : ℕ} {lens highs lows : List ℕ} (r : PackedNames es count lens highs lows) (k : ℕ) (b : k < count) where
  -- the rows tell the name k
  pub entry : Same lens highs lows (length (get_or es k [])) (high (get_or es k [])) (low (get_or es k [])) k
  entry =
      let e = get_or es k [] in
      let a : At es k e = at_get_d es k [] (omega arith) in
      record {
        high = ap (λ (l : List ℕ). get_or l k 0) r.high ∙ row_at high 64 0 es k e 0 r.most a;
        low = ap (λ (l : List ℕ). get_or l k 0) r.low ∙ row_at low 64 0 es k e 0 r.most a;
        long = ap (λ (l : List ℕ). get_or l k 0) r.lengths ∙ row_at length 64 0 es k e 0 r.most a;
      }

  pub entry_name : IsName (get_or es k [])
  entry_name = r.names (get_or es k []) (get_d_mem es k [] (omega arith))

  -- what the name k has in common with what was found to have its length and its numbers
  pub entry_same : {n h l : ℕ} → Same lens highs lows n h l k → (length (get_or es k []) ≡ n) × (high (get_or es k []) ≡ h) × (low (get_or es k []) ≡ l)
  entry_same s = let t = entry in (sym t.long ∙ s.long, sym t.high ∙ s.high, sym t.low ∙ s.low)

  -- a name of this length and these numbers is one event with the name k
  pub entry_told : {w : Name} {n h l : ℕ} → IsName w → n ≡ length w → h ≡ high w → l ≡ low w → Same lens highs lows n h l k → OneEvent w (get_or es k [])
  entry_told {w} o p q i s =
      let (x, y, z) = entry_same s in
      told_one w (get_or es k []) o entry_name (sym p ∙ sym x) (sym q ∙ sym y) (sym i ∙ sym z)

-- the code's tests of an entry
pub same : (lens highs lows : List ℕ) (n h l k : ℕ) → ((eqb (get_or highs k 0) h && eqb (get_or lows k 0) l) && eqb (get_or lens k 0) n) ≡ true
    → Same lens highs lows n h l k
same lens highs lows n h l k t =
    let x = eqb (get_or highs k 0) h in
    let y = eqb (get_or lows k 0) l in
    let z = eqb (get_or lens k 0) n in
    let (f, i) = both (x && y) z t in
    let (g, j) = both x y f in
    record { high = eqb-true (get_or highs k 0) h g; low = eqb-true (get_or lows k 0) l j; long = eqb-true (get_or lens k 0) n i }
