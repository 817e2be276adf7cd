-- Lines that say the same, and what holds of them alike: line 1 in either form, the name of a step in any spelling.
use Prim.Native.Nat.{ℕ, suc, ◌≤◌}
use mathlib.Core.Path.{◌≡◌, refl, ap, sym, ◌∙◌, subst}
use mathlib.Core.Logic.{inl, inr}
use mathlib.Core.Bool.{Bool, cond}
use mathlib.Core.List.{List, [], ◌∷◌, ◌++◌, Memᴰ}
use mathlib.Core.Option.{Option}
use lib.ListN.{length}
use Rattle.model.specs.Lists.{Pairwise, count, index}
use Rattle.model.specs.Machine.{Place, Decomposition}
use Rattle.model.specs.Bytes.{Name, OneEvent}
use Rattle.model.specs.Form.{Line, states, events, step, machine, start_of, Respelt, Formed, Follows, is_step_line, is_machine_line}
use Rattle.model.specs.Text.{event_number, state_count, initial_state, event_names, transitions_in, machines_in, value_of}
use Rattle.model.specs.Table.{OverLimit, Undeclared, Fine}
use Rattle.model.proofs.Pairs.{pairwise_map, pairwise_sym, pairwise_length, pairwise_snoc}
use Rattle.model.proofs.OneEvent.{one_refl, one_sym, one_trans, one_name, same_test}
use Rattle.model.proofs.Chains.{Each, Proper}

pub data Alike : Line → Line → Type 0 where
  first : (n : ℕ) (o q : Option ℕ) → start_of o ≡ start_of q → Alike (states n o) (states n q)
  second : (es : List Name) → Alike (events es) (events es)
  spelt : (a : ℕ) (e f : Name) (b : ℕ) → OneEvent e f → Alike (step a e b) (step a f b)
  split : (ps : List Place) → Alike (machine ps) (machine ps)

abbrev pub AllAlike : List Line → List Line → Type 0
AllAlike = Pairwise Alike

pub same_line : (l : Line) → Alike l l
same_line (states n o) = first n o o refl
same_line (events es) = second es
same_line (step a e b) = spelt a e e b (one_refl e)
same_line (machine ps) = split ps

alike_sym : (l k : Line) → Alike l k → Alike k l
alike_sym l k (first n o q p) = first n q o (sym p)
alike_sym l k (second es) = second es
alike_sym l k (spelt a e f b o) = spelt a f e b (one_sym e f o)
alike_sym l k (split ps) = split ps

pub all_sym : (ls ks : List Line) → AllAlike ls ks → AllAlike ks ls
all_sym ls ks = pairwise_sym ls ks alike_sym

pub all_snoc : (ls ks : List Line) (l k : Line) → AllAlike ls ks → Alike l k → AllAlike (ls ++ (l ∷ [])) (ks ++ (k ∷ []))
all_snoc = pairwise_snoc Alike

pub respelt_alike : (ls ks : List Line) → Pairwise Respelt ls ks → AllAlike ls ks
respelt_alike ls ks = pairwise_map ls ks one
  where
    one : (l k : Line) → Respelt l k → Alike l k
    one (states n o) k q = subst (Alike (states n o)) (sym q) (first n o o refl)
    one (events es) k q = subst (Alike (events es)) (sym q) (second es)
    one (step a e b) k (f, o, q) = subst (Alike (step a e b)) (sym q) (spelt a e f b o)
    one (machine ps) k q = subst (Alike (machine ps)) (sym q) (split ps)

-- ---- what alike lines say

-- a function of lists of lines is the same of alike ones, if it is for each line before the others
by_lines : {A : Type 0} (g : List Line → A) → ((l k : Line) (ls ks : List Line) → Alike l k → g ls ≡ g ks → g (l ∷ ls) ≡ g (k ∷ ks))
    → (ls ks : List Line) → AllAlike ls ks → g ls ≡ g ks
by_lines g h [] [] p = refl
by_lines g h [] (k ∷ ks) p = absurd p
by_lines g h (l ∷ ls) [] p = absurd p
by_lines g h (l ∷ ls) (k ∷ ks) p = h l k ls ks p.0 (by_lines g h ls ks p.1)

pub same_number : (es : List Name) (e f : Name) → OneEvent e f → event_number es e ≡ event_number es f
unfolding event_number index
same_number [] e f o = refl
same_number (x ∷ es) e f o = rw (same_number es e f o) (ap (λ (b : Bool). cond b 0 (suc (event_number es f))) (same_test e f x o))

step_test : (l k : Line) → Alike l k → is_step_line l ≡ is_step_line k
unfolding is_step_line
step_test l k (first n o q p) = refl
step_test l k (second es) = refl
step_test l k (spelt a e f b o) = refl
step_test l k (split ps) = refl

machine_test : (l k : Line) → Alike l k → is_machine_line l ≡ is_machine_line k
unfolding is_machine_line
machine_test l k (first n o q p) = refl
machine_test l k (second es) = refl
machine_test l k (spelt a e f b o) = refl
machine_test l k (split ps) = refl

counted : (t : Line → Bool) → ((l k : Line) → Alike l k → t l ≡ t k) → (ls ks : List Line) → AllAlike ls ks → count t ls ≡ count t ks
unfolding count
counted t h = by_lines (count t) (λ l k xs ys a e. rw (h l k a, e) refl)

states_said : (l k : Line) (xs ys : List Line) → Alike l k → state_count xs ≡ state_count ys → state_count (l ∷ xs) ≡ state_count (k ∷ ys)
states_said l k xs ys (first n o q p) e = refl
states_said l k xs ys (second es) e = e
states_said l k xs ys (spelt a d f b o) e = e
states_said l k xs ys (split ps) e = e

start_said : (l k : Line) (xs ys : List Line) → Alike l k → initial_state xs ≡ initial_state ys → initial_state (l ∷ xs) ≡ initial_state (k ∷ ys)
start_said l k xs ys (first n o q p) e = p
start_said l k xs ys (second es) e = e
start_said l k xs ys (spelt a d f b o) e = e
start_said l k xs ys (split ps) e = e

names_said : (l k : Line) (xs ys : List Line) → Alike l k → event_names xs ≡ event_names ys → event_names (l ∷ xs) ≡ event_names (k ∷ ys)
names_said l k xs ys (first n o q p) e = e
names_said l k xs ys (second es) e = refl
names_said l k xs ys (spelt a d f b o) e = e
names_said l k xs ys (split ps) e = e

steps_said : (ns : List Name) (l k : Line) (xs ys : List Line) → Alike l k → transitions_in ns xs ≡ transitions_in ns ys
    → transitions_in ns (l ∷ xs) ≡ transitions_in ns (k ∷ ys)
steps_said ns l k xs ys (first n o q p) e = e
steps_said ns l k xs ys (second es) e = e
steps_said ns l k xs ys (spelt a d f b o) e = λ i. record { source = a; event = same_number ns d f o i; target = b } ∷ e i
steps_said ns l k xs ys (split ps) e = e

machines_said : (l k : Line) (xs ys : List Line) → Alike l k → machines_in xs ≡ machines_in ys → machines_in (l ∷ xs) ≡ machines_in (k ∷ ys)
machines_said l k xs ys (first n o q p) e = e
machines_said l k xs ys (second es) e = e
machines_said l k xs ys (spelt a d f b o) e = e
machines_said l k xs ys (split ps) e = ap (λ (x : Decomposition). record { places = ps } ∷ x) e

module _ (ls ks : List Line) (p : AllAlike ls ks) where
  pub same_length : length ls ≡ length ks
  same_length = pairwise_length Alike ls ks p

  pub same_machines : count is_machine_line ls ≡ count is_machine_line ks
  same_machines = counted is_machine_line machine_test ls ks p

  same_steps : count is_step_line ls ≡ count is_step_line ks
  same_steps = counted is_step_line step_test ls ks p

  same_states : state_count ls ≡ state_count ks
  same_states = by_lines state_count states_said ls ks p

  same_names : event_names ls ≡ event_names ks
  same_names = by_lines event_names names_said ls ks p

  pub same_value : value_of ls ≡ value_of ks
  unfolding value_of
  same_value = λ i.
      record {
        states = same_states i;
        initial = by_lines initial_state start_said ls ks p i;
        names = same_names i;
        transitions = (ap (λ (ns : List Name). transitions_in ns ls) same_names ∙ by_lines (transitions_in (event_names ks)) (steps_said (event_names ks)) ls ks p) i;
        machines = by_lines machines_in machines_said ls ks p i;
      }

  -- ---- what a line may be after them

  follows : (l k : Line) → Alike l k → Follows ls l → Follows ks k
  follows l k (first n o q r) f = sym same_length ∙ f
  follows l k (second es) f = sym same_length ∙ f
  follows l k (spelt a d e b o) f = (subst (λ (n : ℕ). 2 ≤ n) same_length f.0, sym same_machines ∙ f.1)
  follows l k (split ps) f = subst (λ (n : ℕ). 2 ≤ n) same_length f

  over_limit : (l k : Line) → Alike l k → OverLimit ls l → OverLimit ks k
  over_limit l k (first n o q r) f = f
  over_limit l k (second es) f = f
  over_limit l k (spelt a d e b o) f = subst (λ (n : ℕ). 1024 ≤ n) same_steps f
  over_limit l k (split ps) (inl f) = inl (subst (λ (n : ℕ). 16 ≤ n) same_machines f)
  over_limit l k (split ps) (inr f) = inr f

  undeclared : (l k : Line) → Alike l k → Undeclared ls l → Undeclared ks k
  undeclared l k (first n o q r) f = subst (λ (m : ℕ). n ≤ m) r f
  undeclared l k (second es) f = f
  undeclared l k (spelt a d e b o) (inl f) = inl (subst (λ (n : ℕ). n ≤ a) same_states f)
  undeclared l k (spelt a d e b o) (inr (inl f)) =
      inr (inl (λ w. f (w.0, subst (λ (ns : List Name). Memᴰ w.0 ns) (sym same_names) w.1, one_trans d e w.0 o w.2)))
  undeclared l k (spelt a d e b o) (inr (inr f)) = inr (inr (subst (λ (n : ℕ). n ≤ b) same_states f))
  undeclared l k (split ps) (r, m, x, i, f) = (r, m, x, i, subst (λ (n : ℕ). n ≤ x) same_states f)

formed : (l k : Line) → Alike l k → Formed l → Formed k
formed l k (first n o q p) f = (f.0, subst (λ (m : ℕ). m ≤ 999) p f.1)
formed l k (second es) f = f
formed l k (spelt a d e b o) f = (f.0, one_name e d (one_sym d e o) f.1, f.2)
formed l k (split ps) f = f

module _ (ls ks : List Line) (p : AllAlike ls ks) (l k : Line) (a : Alike l k) where
  pub proper_alike : Proper ls l → Proper ks k
  proper_alike g = record { follows = follows ls ks p l k a g.follows; formed = formed l k a g.formed }

  pub over_alike : OverLimit ls l → OverLimit ks k
  over_alike = over_limit ls ks p l k a

  pub unknown_alike : Undeclared ls l → Undeclared ks k
  unknown_alike = undeclared ls ks p l k a

  -- what says that something is not so needs these laws the other way
  pub fine_alike : Fine ls l → Fine ks k
  fine_alike f =
      let q = all_sym ls ks p in
      let b = alike_sym l k a in
      record { bounded = λ x. f.bounded (over_limit ks ls q k l b x); declared = λ x. f.declared (undeclared ks ls q k l b x) }

pub each_alike : (P : List Line → Line → Type 0) → ((ls ks : List Line) → AllAlike ls ks → (l k : Line) → Alike l k → P ls l → P ks k)
    → (before after ls ks : List Line) → AllAlike before after → AllAlike ls ks → Each P before ls → Each P after ks
each_alike P h before after [] [] a p c = tt
each_alike P h before after [] (k ∷ ks) a p c = absurd p
each_alike P h before after (l ∷ ls) [] a p c = absurd p
each_alike P h before after (l ∷ ls) (k ∷ ks) a p c = (
  h before after a l k p.0 c.0,
  each_alike P h (before ++ (l ∷ [])) (after ++ (k ∷ [])) ls ks (all_snoc before after l k a p.0) p.1 c.1,
)
