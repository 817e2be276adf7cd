-- The names of a list one after another on the machines of a sheet: the loop that runs them, and the answer at each of its ends.
use Rattle.std.specs.Prelude as Std
use Rattle.std.specs.Prelude.{Some, None}
use Prim.Native.Nat.{ℕ, zero, suc, ◌+◌, ◌-◌, ◌<◌, ◌≤◌}
use native.Mathlib.Omega.{arith}
use mathlib.Core.Path.{◌≡◌, refl, ap, ap₂, sym, ◌∙◌}
use mathlib.Core.Logic.{◌⊎◌, inl, inr}
use mathlib.Core.Bool.{not, ◌&&◌}
use mathlib.Core.List.{List, [], ◌∷◌, ◌++◌, map}
use mathlib.Core.Option.{Option, none, some}
use lib.Dec.{T}
use lib.ListN.{length, take, drop, replicate, length-map, length-replicate, drop_of_length-le}
use lib.Seq.{sets-eq, take_at}
use Rattle.model.specs.declared.Refusal.TheVariants.{UnknownEvent}
use Rattle.model.specs.Cases.{tabled}
use Rattle.model.specs.Lists.{every, index, is_empty, numbers, Pairwise}
use Rattle.model.specs.Refusal.{refused, passed}
use Rattle.model.specs.Product.{Move, Ran, effective, run_from, blocker}
use Rattle.model.specs.Bytes.{Name}
use Rattle.model.specs.Text.{event_number}
use Rattle.model.specs.Sheet.{NamedLine, Board}
use Rattle.model.specs.Services.{RunAnswer, ran_answer, padded, outcome_of, whole, blocked}
use Rattle.model.specs.Board.{move_on, start_places, run_names, run_board}
use Rattle.model.proofs.Laws.{dec, order, contra, T_true, T_false, and_l, and_r}
use Rattle.model.proofs.Together.{SameMoves, same_run, run_stops, run_goes}
use Rattle.model.proofs.BoardNames.{names_end, names_more}
use Rattle.rows.specs.Rows.{row}
use Rattle.regions.specs.Moves.{move_at}
use Rattle.sheet_reader.specs.Lent.{Lent}
use Rattle.sheet_reader.specs.Lines.{Told}
use Rattle.product.specs.declared.Outcome.TheVariants.{Whole, Blocked}
use Rattle.product.specs.declared.Stepped.{Stepped}
use Rattle.product.specs.Answers.{outcome_is, run_answer}
use Rattle.product.specs.Stepping.{Steps, IsOn, IsPadded}
use Rattle.product.proofs.Firing.{step_moves, step_blocks, still_padded}
use Rattle.product.proofs.Running.{after, after_none, after_one}
use Rattle.board_service.specs.declared.name_list.EventAt.{EventAt}
use Rattle.board_service.specs.Listed.{ReadsName}
use Rattle.board_service.specs.Boards.{names_from, odd_from, answer_of, Loaded, odd_is, FindsOdd, EndsBlocked, RunsNames}
use Rattle.board_service.proofs.Knowing.{off_name, same_moves, on_rows}
use Rattle.board_service.proofs.Seeking.{own_name, seek_more, seek_odd, seek_end}

-- ---- the row of the start places

drop_replicate : (n m : ℕ) → drop {A = ℕ} n (replicate m 0) ≡ replicate (m - n) 0
drop_replicate zero m = let z : m - 0 ≡ m = omega arith in rw z
drop_replicate (suc n) zero = let z : 0 - suc n ≡ 0 = omega arith in rw z
drop_replicate (suc n) (suc m) = let z : suc m - suc n ≡ m - n = omega arith in rw z (drop_replicate n m)

row_padded : (qs : List ℕ) → length qs ≤ 16 → row 16 0 qs ≡ padded qs
unfolding row padded
row_padded qs h =
    let z : 0 + length qs ≡ length qs = omega arith in
    sets-eq qs (replicate 16 0) 0 (omega (arith, length-replicate {A = ℕ} 16 0)) ∙ rw z (ap (λ (l : List ℕ). qs ++ l) (drop_replicate (length qs) 16))

take_padded : (qs : List ℕ) (n : ℕ) → n ≡ length qs → take n (padded qs) ≡ qs
unfolding padded
take_padded qs n h = take_at qs (replicate (16 - length qs) 0) n (sym h)

-- ---- by the rows

module _ (machines : ℕ) (u : Lent) (ns : List Name) where
  -- the run of these names on the machines whose moves the rows tell
  abbrev run_rows : List ℕ → List Name → Ran
  run_rows qs es = run_from (move_at u.pre u.post) (numbers machines) qs (map (event_number ns) es)

  -- what is answered where k names have run, the machines stand in qs, and these names are ahead
  abbrev answer_from : Board → ℕ → List ℕ → List Name × List ℕ → RunAnswer
  answer_from b k qs p = answer_of (odd_from b k p) (after k (run_rows qs p.0))

module _ {b : Board} {count machines : ℕ} {u : Lent} (o : Told b count u) (n : machines ≡ length b) (most : machines ≤ 16) where
  abbrev ns : List Name
  ns = o.names

  number_low : (w : Name) → T (effective move_on b w) → event_number ns w < count
  number_low w t = go (order (event_number ns w) count)
    where
      go : (event_number ns w < count) ⊎ (count ≤ event_number ns w) → event_number ns w < count
      go (inl h) = h
      go (inr h) = absurd (contra (effective move_on b w) (off_name o w h) t)

  paired : (es : List Name) → T (every (effective move_on b) es)
      → Pairwise (SameMoves (move_at u.pre u.post) move_on (numbers machines) b) (map (event_number ns) es) es
  unfolding every
  paired [] t = tt
  paired (w ∷ es) t =
      let a = and_l (effective move_on b w) (every (effective move_on b) es) t in
      (same_moves o w n most (event_number ns w) refl (number_low w a), paired es (and_r (effective move_on b w) (every (effective move_on b) es) t))

  same_names : (es : List Name) (qs : List ℕ) → T (every (effective move_on b) es) → run_rows machines u ns qs es ≡ run_from move_on b qs es
  same_names es qs t = same_run (move_at u.pre u.post) move_on (numbers machines) b (map (event_number ns) es) es (paired es t) qs

  -- all names are ahead
  answer_start : (p : List Name × List ℕ) → answer_from machines u ns b 0 (start_places b) p ≡ ran_answer (run_names b p.0 p.1)
  unfolding answer_of odd_from run_names
  answer_start p = go (dec (every (effective move_on b) p.0 && is_empty p.1))
    where
      go : T (every (effective move_on b) p.0 && is_empty p.1) ⊎ T (not (every (effective move_on b) p.0 && is_empty p.1))
          → answer_from machines u ns b 0 (start_places b) p ≡ ran_answer (run_names b p.0 p.1)
      go (inl t) =
          rw (T_true (every (effective move_on b) p.0 && is_empty p.1) t)
          (ap (λ (r : Ran). ran_answer (passed r))
          (sym (after_none (run_rows machines u ns (start_places b) p.0)) ∙ same_names p.0 (start_places b) (and_l (every (effective move_on b) p.0) (is_empty p.1) t)))
      go (inr t) =
          let z : 0 + index (λ e. not (effective move_on b e)) p.0 ≡ index (λ e. not (effective move_on b e)) p.0 = omega arith in
          rw (T_false (every (effective move_on b) p.0 && is_empty p.1) t, z)

-- ---- the loop

-- `ran` names have run, and the next begins at i
pub record Going (t : List ℕ) (machines count : ℕ) (u : Lent) (start places : List ℕ) (ran i : ℕ) : Type 0 where
  pub inside : i ≤ length t
  pub ordered : ran ≤ i
  pub size : length places ≡ 16
  pub rest : (b : Board) (o : Loaded b count u) → machines ≡ length b → start ≡ row 16 0 (start_places b)
      → IsPadded machines places
      × (answer_from machines u o.told.names b ran (take machines places) (names_from t i) ≡ ran_answer (run_board b t))

module _ {t : List ℕ} {machines count : ℕ} {u : Lent} {start : List ℕ} (most : machines ≤ 16) where
  pub going_start : length start ≡ 16 → Going t machines count u start start 0 0
  unfolding start_places
  going_start h =
      record {
        inside = omega arith;
        ordered = omega arith;
        size = h;
        rest = λ b o n z.
            let qs = start_places b in
            let counted : machines ≡ length qs = n ∙ sym (length-map b (λ (l : NamedLine). l.start)) in
            let stands : start ≡ padded qs = z ∙ row_padded qs (omega arith) in
            let first : take machines start ≡ qs = ap (take machines) stands ∙ take_padded qs machines counted in (
              stands ∙ ap padded (sym first),
              ap (λ (ps : List ℕ). answer_from machines u o.told.names b 0 ps (names_from t 0)) first ∙ answer_start o.told n most (names_from t 0),
            );
      }

  module _ {places : List ℕ} {ran i : ℕ} (inv : Going t machines count u start places ran i) where
    pub going_odd : i < length t → ReadsName t i count u.lens u.highs u.lows None
        → {a : RunAnswer} → a ≡ ran_answer (refused (tabled (UnknownEvent ran))) → RunsNames t machines count u start a
    unfolding answer_of tabled
    going_odd h r e = record {
      runs = λ b o n z.
          e ∙ sym (ap (λ (k : Option ℕ). answer_of k (after ran (run_rows machines u o.told.names (take machines places) (names_from t i).0)))
          (seek_odd o ran h r))
          ∙ (inv.rest b o n z).1;
    }

    pub going_end : length t ≤ i → RunsNames t machines count u start (run_answer (record { outcome = Whole; places = places }))
    unfolding run_answer outcome_is answer_of ran_answer outcome_of run_from
    going_end h = record {
      runs = λ b o n z.
          let (pad, e) = inv.rest b o n z in
          ap (λ (ps : List ℕ). record { outcome = whole; places = ps }) pad
          ∙ sym (ap (λ (p : List Name × List ℕ). answer_of none (after ran (run_rows machines u o.told.names (take machines places) p.0))) (names_end t i (drop_of_length-le t h)))
          ∙ sym (ap (λ (k : Option ℕ). answer_of k (after ran (run_rows machines u o.told.names (take machines places) (names_from t i).0))) (seek_end o t i ran h))
          ∙ e;
    }

    module _ {x : EventAt} (known : ReadsName t i count u.lens u.highs u.lows (Some x)) where
      module _ {s : Stepped} (steps : Steps u.pre u.post machines places x.event s) where
        module _ (b : Board) (o : Loaded b count u) (n : machines ≡ length b) where
          abbrev e : ℕ
          e = x.event

          abbrev next : ℕ
          next = x.next

          abbrev w : Name
          w = (own_name o known.found.numbered).0

          abbrev later : List Name × List ℕ
          later = names_from t next

          abbrev ds : List ℕ
          ds = map (event_number o.told.names) later.0

          abbrev moves : ℕ → ℕ → Option Move
          moves = move_at u.pre u.post

          numbered : e ≡ event_number o.told.names w
          numbered = (own_name o known.found.numbered).2

          on : IsOn u.pre u.post machines e
          on = on_rows o.told w n most e numbered known.found.low

          -- the names ahead begin with this one
          ahead : (qs : List ℕ) → run_rows machines u o.told.names qs (names_from t i).0 ≡ run_from moves (numbers machines) qs (e ∷ ds)
          ahead qs =
              ap (λ (p : List Name × List ℕ). run_rows machines u o.told.names qs p.0) (names_more t i w next (own_name o known.found.numbered).1)
              ∙ ap (λ (x : ℕ). run_from moves (numbers machines) qs (x ∷ ds)) (sym numbered)

          went : s.blocker ≡ None → answer_from machines u o.told.names b ran (take machines places) (names_from t i)
              ≡ answer_from machines u o.told.names b (ran + 1) (take machines s.places) later
          went h =
              ap₂ answer_of (seek_more o ran known)
              (ap (after ran) (ahead (take machines places) ∙ run_goes moves (numbers machines) (take machines places) (take machines s.places) e ds (step_moves on steps h))
              ∙ after_one ran (run_from moves (numbers machines) (take machines s.places) ds))

          halted : (m : ℕ) → s.blocker ≡ Some m → answer_from machines u o.told.names b ran (take machines places) (names_from t i)
              ≡ answer_of (odd_from b (ran + 1) later) (record { ran = ran; blocked = some m; places = take machines places })
          halted m h =
              let z : ran + 0 ≡ ran = omega arith in
              let who : m ≡ blocker moves (numbers machines) (take machines places) e = rw h at steps.blocker in
              ap₂ answer_of (seek_more o ran known)
              (ap (after ran) (ahead (take machines places) ∙ run_stops moves (numbers machines) (take machines places) e ds (step_blocks on steps m h)) ∙ rw (z, who))

        pub going_more : s.blocker ≡ None → Going t machines count u start s.places (ran + 1) x.next
        going_more h =
            record {
              inside = known.found.inside;
              ordered = omega (arith, known.found.later, inv.ordered);
              size = steps.size;
              rest = λ b o n z.
                  let (pad, k) = inv.rest b o n z in
                  (still_padded most inv.size pad steps, sym (went b o n h) ∙ k);
            }

        pub going_blocked : {m : ℕ} → s.blocker ≡ Some m → {a : RunAnswer} → EndsBlocked t x.next count u.lens u.highs u.lows ran m s.places a
            → RunsNames t machines count u start a
        going_blocked {m} h f = record {
          runs = λ b o n z.
              let (pad, k) = inv.rest b o n z in
              f.ends b u.pre u.post (take machines places) o ((steps.halts m h).1 ∙ pad) ∙ sym (halted b o n m h) ∙ k;
        }

-- ---- after a block

module _ {t : List ℕ} {at count : ℕ} {lens highs lows : List ℕ} {ran machine : ℕ} {places : List ℕ} {r : Std.Option ℕ} (f : FindsOdd t at (ran + 1) count lens highs lows r) where
  pub blocked_odd : {k : ℕ} → r ≡ Some k → {a : RunAnswer} → a ≡ ran_answer (refused (tabled (UnknownEvent k)))
      → EndsBlocked t at count lens highs lows ran machine places a
  unfolding answer_of tabled odd_is
  blocked_odd {k} q e = record {
    ends = λ b pre post qs o p.
        e ∙ ap (λ (x : Option ℕ). answer_of x (record { ran = ran; blocked = some machine; places = qs })) (sym (ap odd_is q) ∙ f.odd b pre post o);
  }

  pub blocked_fine : r ≡ None → EndsBlocked t at count lens highs lows ran machine places (run_answer (record { outcome = Blocked ran machine; places = places }))
  unfolding answer_of odd_is run_answer outcome_is ran_answer outcome_of
  blocked_fine q = record {
    ends = λ b pre post qs o p.
        ap (λ (ps : List ℕ). record { outcome = blocked ran machine; places = ps }) p
        ∙ ap (λ (x : Option ℕ). answer_of x (record { ran = ran; blocked = some machine; places = qs })) (sym (ap odd_is q) ∙ f.odd b pre post o);
  }
