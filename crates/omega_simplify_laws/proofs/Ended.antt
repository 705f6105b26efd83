-- What a term and its simplified one come to.
-- Main results: simplified_comes_too, term_comes_too.
use Rattle.std.proofs.Common.{◌≡◌, ℕ, zero, suc, ◌<◌, ◌≤◌, subst, [], zero-le, suc-le-suc, arith}
use Rattle.omega_types.specs.Ty.{Ty}
use Rattle.omega_terms.specs.Term.{Term}
use Rattle.omega_terms.specs.Typing.{HasType}
use Rattle.omega_terms.specs.Steps.{IsValue, Step, Faults, Fault, Reaches, End, Ends}
use Rattle.omega_terms.proofs.TypingLaws.{good-none}
use Rattle.omega_laws.proofs.Keep.{keeps}
use Rattle.omega_laws.proofs.Progress.{Progress, progress}
use Rattle.omega_laws.proofs.Runs.{end_unique, later, sooner}
use Rattle.omega_simplify_laws.specs.Simplified.{simplified}
use Rattle.omega_simplify_laws.specs.Claims.{SameEnd, SimplifiedComesToo, TermComesToo}
use Rattle.omega_simplify_laws.proofs.Likeness.{Like}
use Rattle.omega_simplify_laws.proofs.Values.{value_like}
use Rattle.omega_simplify_laws.proofs.Initial.{start}
use Rattle.omega_simplify_laws.proofs.Faulted.{faults_too}
use Rattle.omega_simplify_laws.proofs.Stepped.{Follows, follows}
use Rattle.omega_simplify_laws.proofs.Shown.{shown_like, text_like}

step_type : {e c : Term} (t : Ty) → HasType [] [] e t → Step e c → HasType [] [] c t
step_type t h s = keeps s [] [] t (good-none []) h

same_value : {n : ℕ} {v d : Term} → IsValue v → Like n v d → SameEnd (End.the_value v) (End.the_value d)
same_value v p = SameEnd.value (shown_like v p) (text_like v p)

-- ---- forwards

-- what the other term has come to by then
pub record Reached (n : ℕ) (c d : Term) : Type 0 where
  pub count : ℕ
  pub term : Term
  pub weight : ℕ
  pub reaches : Reaches d count term
  pub less : count ≤ n
  pub like : Like weight c term

stayed : {n : ℕ} {c d : Term} → Reached n c d → Reached (suc n) c d
stayed r = record { count = r.count; term = r.term; weight = r.weight; reaches = r.reaches; less = let l = r.less in omega arith; like = r.like }

stepped : {n : ℕ} {c d b : Term} → Step d b → Reached n c b → Reached (suc n) c d
stepped s r = record { count = suc r.count; term = r.term; weight = r.weight; reaches = Reaches.step s r.reaches; less = suc-le-suc r.less; like = r.like }

reached_by : {n k : ℕ} {b d c : Term} → ((j : ℕ) (a : Term) → Like j b a → Reached n c a) → Follows k b d → Reached (suc n) c d
reached_by f (Follows.stays {k = j} q m) = stayed (f j _ q)
reached_by f (Follows.steps {k = j} s q) = stepped s (f j _ q)

reached : {n k : ℕ} {e d c : Term} (t : Ty) → HasType [] [] e t → Like k e d → Reaches e n c → Reached n c d
reached {k = k} {d = d} t h p Reaches.none = record { count = zero; term = d; weight = k; reaches = Reaches.none; less = zero-le; like = p }
reached t h p (Reaches.step s r) = reached_by (λ j a q. reached t (step_type t h s) q r) (follows p (t, h) s)

comes_too : {e d : Term} {n k : ℕ} {r : End} (t : Ty) → HasType [] [] e t → Like k e d → Ends e n r → (m : ℕ) × (s : End) × Ends d m s × (m ≤ n) × SameEnd r s
comes_too t h p (Ends.value q v) =
    let x = reached t h p q in
    (x.count, End.the_value x.term, Ends.value x.reaches (value_like v x.like), x.less, same_value v x.like)
comes_too t h p (Ends.fault {x = z} q f) =
    let x = reached t h p q in
    (suc x.count, End.the_fault z, Ends.fault x.reaches (faults_too x.like f), suc-le-suc x.less, SameEnd.fault)

-- where a term comes to an end, its simplified one comes to the same end in no more steps
pub simplified_comes_too : SimplifiedComesToo
simplified_comes_too e t n r h i = comes_too t h (start e).like i

-- ---- backwards

abbrev EndFound : Term → End → Type 0
EndFound e s = (m : ℕ) × (r : End) × Ends e m r × SameEnd r s

abbrev Found : Ty → ℕ → Type 0
Found t n = (e d : Term) (k : ℕ) (s : End) → HasType [] [] e t → Like k e d → Ends d n s → EndFound e s

value_found : {e d : Term} {n k : ℕ} {s : End} → IsValue e → Like k e d → Ends d n s → EndFound e s
value_found {e} v p r =
    let u = end_unique (Ends.value Reaches.none (value_like v p)) r in
    (zero, End.the_value e, Ends.value Reaches.none v, subst (λ x. SameEnd (End.the_value e) x) u.1 (same_value v p))

fault_found : {e d : Term} {n k : ℕ} {s : End} {x : Fault} → Faults e x → Like k e d → Ends d n s → EndFound e s
fault_found {x = x} f p r =
    let u = end_unique (Ends.fault Reaches.none (faults_too p f)) r in
    (suc zero, End.the_fault x, Ends.fault Reaches.none f, subst (λ y. SameEnd (End.the_fault x) y) u.1 SameEnd.fault)

one_more : {e c : Term} {s : End} → Step e c → EndFound c s → EndFound e s
one_more s x = (suc x.0, x.1, sooner s x.2, x.3)

step_found : {e c d : Term} {k : ℕ} {s : End} (t : Ty) (n : ℕ) → ((m : ℕ) → n ≡ suc m → Found t m) → ((j : ℕ) → j < k → Like j c d → EndFound c s) →
    HasType [] [] c t → Ends d n s → Step e c → Follows k c d → EndFound e s
step_found t n f g h r st (Follows.stays {k = j} q m) = one_more st (g j m q)
step_found {c = c} {s = s} t n f g h r st (Follows.steps {k = j} {e = b} u q) = let y = later u r in one_more st (f y.left y.is c b j s h q y.ends)

end_found : {e d : Term} {k : ℕ} {s : End} (t : Ty) (n : ℕ) → ((m : ℕ) → n ≡ suc m → Found t m) →
    ((c : Term) (j : ℕ) → j < k → HasType [] [] c t → Like j c d → EndFound c s) → HasType [] [] e t → Like k e d → Ends d n s → Progress e →
    EndFound e s
end_found t n f g h p r (Progress.value v) = value_found v p r
end_found t n f g h p r (Progress.steps c st) = let i = step_type t h st in step_found t n f (λ j m q. g c j m i q) i r st (follows p (t, h) st)
end_found t n f g h p r (Progress.faults x s) = fault_found s p r

-- the term steps until what it is like steps too, which its weight bounds
within : (t : Ty) (n : ℕ) → ((m : ℕ) → n ≡ suc m → Found t m) → (fuel : ℕ) (e d : Term) (k : ℕ) (s : End) → k < fuel → HasType [] [] e t → Like k e d →
    Ends d n s → EndFound e s
within t n f zero e d k s l h p r = absurd (omega arith)
within t n f (suc fuel) e d k s l h p r = end_found t n f (λ c j m i q. within t n f fuel c d j s (omega arith) i q r) h p r (progress e t h)

none_before : (t : Ty) (m : ℕ) → zero ≡ suc m → Found t m
none_before t m e = absurd (cc)

one_before : (t : Ty) (n : ℕ) → Found t n → (m : ℕ) → suc n ≡ suc m → Found t m
one_before t n f m e = let p : n ≡ m = omega arith in subst (λ x. Found t x) p f

found : (t : Ty) (n : ℕ) → Found t n
found t zero e d k s h p r = within t zero (none_before t) (suc k) e d k s (omega arith) h p r
found t (suc n) e d k s h p r = within t (suc n) (one_before t n (found t n)) (suc k) e d k s (omega arith) h p r

-- where the simplified term comes to an end, the term comes to the same end
pub term_comes_too : TermComesToo
term_comes_too e t n s h i = let x = start e in found t n e (simplified e) x.weight s h x.like i
