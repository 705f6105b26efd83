-- A number that falls at each call that putting types in for variables makes of itself: it counts them.
-- Main results: apply-falls, came-falls, came_at-falls.
use Rattle.std.proofs.Common.{◌≡◌, ℕ, zero, suc, ◌+◌, ◌<◌, ◌≤◌, ap, ap₂, ◌∙◌, ◌*◌, arith}
use Rattle.omega_kinds.specs.Kind.{Kind}
use Rattle.omega_types.specs.Ty.{Ty, Row}
use Rattle.omega_types.specs.Index.{Slot, taken, kept, slot}
use Rattle.type_normal.specs.Inner.Heads.{Head, stands, came, came_at, raised, apply_head, under_head, sunk, head_in, ty_in, slot_head, one_head}

-- the number of arrows of a kind
abbrev pub height : Kind → ℕ
height Kind.Star = zero
height (Kind.Arrow k l) = suc (height k + height l)

-- the calls in a type, where count says how many an application takes from then on
abbrev mutual
  pub calls_with : (Head → Ty → ℕ) → (ℕ → Head) → Ty → ℕ
  calls_with count h (Ty.Var j) = 1
  calls_with count h Ty.Int = 1
  calls_with count h Ty.Bool = 1
  calls_with count h Ty.Text = 1
  calls_with count h (Ty.Arrow s t) = suc (calls_with count h s + calls_with count h t)
  calls_with count h (Ty.Fields row) = suc (row_calls_with count h row)
  calls_with count h (Ty.Sum row) = suc (row_calls_with count h row)
  calls_with count h (Ty.All l b) = suc (calls_with count (under_head h) b)
  calls_with count h (Ty.Ex l b) = suc (calls_with count (under_head h) b)
  calls_with count h (Ty.Mu b) = suc (calls_with count (under_head h) b)
  calls_with count h (Ty.Lam l b) = suc (calls_with count (under_head h) b)
  calls_with count h (Ty.Apply f t) = suc (calls_with count h f + calls_with count h t + count (head_in h f) (ty_in h t))

  pub row_calls_with : (Head → Ty → ℕ) → (ℕ → Head) → Row → ℕ
  row_calls_with count h Row.End = 1
  row_calls_with count h (Row.More l t rest) = suc (calls_with count h t + row_calls_with count h rest)

-- the calls of an operator of a kind that meets its argument
abbrev pub apply_calls : ((ℕ → Head) → Ty → ℕ) → Head → Ty → ℕ
apply_calls calls (came_at (Ty.Lam j b) (Kind.Arrow k l)) a = suc (calls (one_head k zero a) b)
apply_calls calls p a = zero

-- the same, where no more than so many kinds are entered
abbrev pub contract_calls : ℕ → Head → Ty → ℕ
contract_calls zero = λ p a. zero
contract_calls (suc n) = apply_calls (calls_with (contract_calls n))

-- how many calls an operator takes that meets its argument: one without a kind takes the argument at the kind it binds
abbrev pub operator_calls : Head → Ty → ℕ
operator_calls (stands t) a = zero
operator_calls (came (Ty.Lam j b)) a = contract_calls (suc (height j)) (came_at (Ty.Lam j b) (Kind.Arrow j Kind.Star)) a
operator_calls (came t) a = zero
operator_calls (came_at t k) a = contract_calls (height k) (came_at t k) a

-- how many calls of itself the walk makes in a type
abbrev pub calls : (ℕ → Head) → Ty → ℕ
calls = calls_with operator_calls

-- how many it makes in a row
abbrev pub row_calls : (ℕ → Head) → Row → ℕ
row_calls = row_calls_with operator_calls

-- what comes in has a kind of at most so many arrows
data Low (n : ℕ) : Head → Type 0 where
  l_stands : (t : Ty) → Low n (stands t)
  l_came : (t : Ty) (k : Kind) → height k ≤ n → Low n (came_at t k)

abbrev Lows : ℕ → (ℕ → Head) → Type 0
Lows n h = (i : ℕ) → Low n (h i)

low-raised : {n : ℕ} {p : Head} → Low n p → Low n (raised p)
low-raised (l_stands t) = l_stands _
low-raised (l_came t k le) = l_came _ k le

low-under : {n : ℕ} {h : ℕ → Head} → Lows n h → Lows n (under_head h)
low-under g zero = l_stands (Ty.Var zero)
low-under g (suc i) = low-raised (g i)

low-apply : {n : ℕ} {p : Head} → Low n p → (a : Ty) → Low n (apply_head p a)
low-apply (l_stands t) a = l_stands _
low-apply (l_came (Ty.Lam j b) (Kind.Arrow k l) le) a = l_came _ l (omega (arith, le))
low-apply (l_came (Ty.Lam j b) Kind.Star le) a = l_stands _
low-apply (l_came (Ty.Var i) k le) a = l_stands _
low-apply (l_came Ty.Int k le) a = l_stands _
low-apply (l_came Ty.Bool k le) a = l_stands _
low-apply (l_came Ty.Text k le) a = l_stands _
low-apply (l_came (Ty.Arrow s t) k le) a = l_stands _
low-apply (l_came (Ty.Fields r) k le) a = l_stands _
low-apply (l_came (Ty.Sum r) k le) a = l_stands _
low-apply (l_came (Ty.All l b) k le) a = l_stands _
low-apply (l_came (Ty.Ex l b) k le) a = l_stands _
low-apply (l_came (Ty.Mu b) k le) a = l_stands _
low-apply (l_came (Ty.Apply f t) k le) a = l_stands _

low-in : {n : ℕ} {h : ℕ → Head} → Lows n h → (t : Ty) → Low n (head_in h t)
low-in g (Ty.Var i) = g i
low-in g Ty.Int = l_stands _
low-in g Ty.Bool = l_stands _
low-in g Ty.Text = l_stands _
low-in g (Ty.Arrow s t) = l_stands _
low-in g (Ty.Fields r) = l_stands _
low-in g (Ty.Sum r) = l_stands _
low-in g (Ty.All l b) = l_stands _
low-in g (Ty.Ex l b) = l_stands _
low-in g (Ty.Mu b) = l_stands _
low-in g (Ty.Lam l b) = l_stands _
low-in {h = h} g (Ty.Apply f t) = low-apply (low-in g f) (ty_in h t)

low-slot : (n : ℕ) (k : Kind) (a : Ty) (s : Slot) → height k ≤ n → Low n (slot_head k a s)
low-slot n k a taken le = l_came a k le
low-slot n k a (kept m) le = l_stands _

low-one : (n : ℕ) (k : Kind) (i : ℕ) (a : Ty) → height k ≤ n → Lows n (one_head k i a)
low-one n k i a le j = low-slot n k a (slot i j) le

-- where heads have such kinds, one count is at most the other
abbrev Below : ℕ → (Head → Ty → ℕ) → (Head → Ty → ℕ) → Type 0
Below n c d = (p : Head) (a : Ty) → Low n p → c p a ≤ d p a

mutual
  calls_with-mono : (n : ℕ) (c d : Head → Ty → ℕ) → Below n c d → (h : ℕ → Head) → Lows n h → (t : Ty) → calls_with c h t ≤ calls_with d h t
  calls_with-mono n c d m h g (Ty.Var j) = omega arith
  calls_with-mono n c d m h g Ty.Int = omega arith
  calls_with-mono n c d m h g Ty.Bool = omega arith
  calls_with-mono n c d m h g Ty.Text = omega arith
  calls_with-mono n c d m h g (Ty.Arrow s t) = let p = calls_with-mono n c d m h g s in let q = calls_with-mono n c d m h g t in omega arith
  calls_with-mono n c d m h g (Ty.Fields row) = let p = row_calls_with-mono n c d m h g row in omega arith
  calls_with-mono n c d m h g (Ty.Sum row) = let p = row_calls_with-mono n c d m h g row in omega arith
  calls_with-mono n c d m h g (Ty.All l b) = let p = calls_with-mono n c d m (under_head h) (low-under g) b in omega arith
  calls_with-mono n c d m h g (Ty.Ex l b) = let p = calls_with-mono n c d m (under_head h) (low-under g) b in omega arith
  calls_with-mono n c d m h g (Ty.Mu b) = let p = calls_with-mono n c d m (under_head h) (low-under g) b in omega arith
  calls_with-mono n c d m h g (Ty.Lam l b) = let p = calls_with-mono n c d m (under_head h) (low-under g) b in omega arith
  calls_with-mono n c d m h g (Ty.Apply f t) =
      let p = calls_with-mono n c d m h g f in
      let q = calls_with-mono n c d m h g t in
      let r = m (head_in h f) (ty_in h t) (low-in g f) in
      omega arith

  row_calls_with-mono : (n : ℕ) (c d : Head → Ty → ℕ) → Below n c d → (h : ℕ → Head) → Lows n h → (row : Row) → row_calls_with c h row ≤ row_calls_with d h row
  row_calls_with-mono n c d m h g Row.End = omega arith
  row_calls_with-mono n c d m h g (Row.More l t rest) = let p = calls_with-mono n c d m h g t in let q = row_calls_with-mono n c d m h g rest in omega arith

apply-mono : (c d : Head → Ty → ℕ) → ((p : Head) (a : Ty) → c p a ≤ d p a) → (p : Head) (a : Ty) →
    apply_calls (calls_with c) p a ≤ apply_calls (calls_with d) p a
apply-mono c d m (came_at (Ty.Lam j b) (Kind.Arrow k l)) a =
    let q = calls_with-mono (height k) c d (λ p e _. m p e) (one_head k zero a) (low-one (height k) k zero a (omega arith)) b in
    omega arith
apply-mono c d m (came_at (Ty.Lam j b) Kind.Star) a = omega arith
apply-mono c d m (came_at (Ty.Var j) k) a = omega arith
apply-mono c d m _ a = omega arith

contract-mono : (n m : ℕ) → n ≤ m → (p : Head) (a : Ty) → contract_calls n p a ≤ contract_calls m p a
contract-mono zero m le p a = omega arith
contract-mono (suc n) zero le p a = absurd (omega (arith, le))
contract-mono (suc n) (suc m) le p a = apply-mono (contract_calls n) (contract_calls m) (contract-mono n m (omega arith)) p a

operator-low : (n : ℕ) → Below n operator_calls (contract_calls n)
operator-low n _ a (l_stands t) = omega arith
operator-low n _ a (l_came t k le) = contract-mono (height k) n le (came_at t k) a

-- in an operator's body, where its argument comes in, no more calls are made than so many kinds allow
body-low : (n : ℕ) (k : Kind) (a b : Ty) → height k ≤ n → calls (one_head k zero a) b ≤ calls_with (contract_calls n) (one_head k zero a) b
body-low n k a b le = calls_with-mono n operator_calls (contract_calls n) (operator-low n) (one_head k zero a) (low-one n k zero a le) b

-- the calls of an operator that meets its argument hold those of its body
calls-came_at : (j k l : Kind) (a b : Ty) → calls (one_head k zero a) b < operator_calls (came_at (Ty.Lam j b) (Kind.Arrow k l)) a
calls-came_at j k l a b = let p = body-low (height k + height l) k a b (omega arith) in omega arith

calls-came : (j : Kind) (a b : Ty) → calls (one_head j zero a) b < operator_calls (came (Ty.Lam j b)) a
calls-came j a b = let p = body-low (height j) j a b (omega arith) in omega arith

-- below a binder, with binders counted as the code counts them
pub calls-under : (depth : ℕ) (h : ℕ → Head) (b : Ty) → calls (under_head (sunk depth h)) b ≡ calls (sunk (depth + 1) h) b
calls-under depth h b = ap (λ n. calls (sunk n h) b) (next depth)
  where
    next : (n : ℕ) → suc n ≡ n + 1
    next n = omega arith

-- an operator that meets its argument has fewer calls than the application
pub apply-falls : (h : ℕ → Head) (f t a : Ty) (p : Head) → p ≡ head_in h f → a ≡ ty_in h t → 4 * operator_calls p a < 4 * calls h (Ty.Apply f t)
apply-falls h f t a p g e =
    let m : operator_calls p a ≡ operator_calls (head_in h f) (ty_in h t) = ap₂ operator_calls g e in
    omega (arith, m)

-- entering its body with its argument leaves fewer
pub came-falls : (p : Head) (operator arg b : Ty) (j from : Kind) → p ≡ came operator → operator ≡ Ty.Lam j b → from ≡ j →
    4 * calls (sunk 0 (one_head from 0 arg)) b + 2 < 4 * operator_calls p arg
came-falls p operator arg b j from e f g =
    let n = calls-came j arg b in
    let o : operator_calls p arg ≡ operator_calls (came (Ty.Lam j b)) arg = ap (λ q. operator_calls q arg) (e ∙ ap came f) in
    let q : calls (one_head from 0 arg) b ≡ calls (one_head j 0 arg) b = ap (λ l. calls (one_head l 0 arg) b) g in
    omega (arith, n, o, q)

-- so does entering the body of one of a kind
pub came_at-falls : (p : Head) (operator arg b : Ty) (kind from to entered j : Kind) → p ≡ came_at operator kind → operator ≡ Ty.Lam j b →
    kind ≡ Kind.Arrow from to → entered ≡ from → 4 * calls (sunk 0 (one_head entered 0 arg)) b + 2 < 4 * operator_calls p arg
came_at-falls p operator arg b kind from to entered j e f g h =
    let n = calls-came_at j from to arg b in
    let o : operator_calls p arg ≡ operator_calls (came_at (Ty.Lam j b) (Kind.Arrow from to)) arg = ap (λ q. operator_calls q arg) (e ∙ ap₂ came_at f g) in
    let q : calls (one_head entered 0 arg) b ≡ calls (one_head from 0 arg) b = ap (λ l. calls (one_head l 0 arg) b) h in
    omega (arith, n, o, q)
