-- A rule with a premise that two things are equal: without it there is one refusal, and no conclusion.
-- Main results: equal.
use Rattle.std.specs.Prelude.{◌≡◌, ◌≢◌}
use Rattle.std.proofs.Math.Path.{sym, subst}
use Rattle.sig_definitions.specs.Verdict.{Verdict, refuses}

-- a rule with a premise that two things are equal has one outcome if it does where they are, and one refusal else
pub equal : {X A R : Type 0} {x c : X} (Gives : X → A → Type 0) (Refuses : X → R → Type 0) (why : R)
    → Dec (x ≡ c)
    → (x ≡ c → Verdict (Gives c) (Refuses c))
    → (x ≢ c → Refuses x why)
    → (x ≢ c → (r : R) → Refuses x r → r ≡ why)
    → ((o : A) → Gives x o → x ≡ c)
    → Verdict (Gives x) (Refuses x)
equal Gives Refuses why (yes e) at wrong only premise = subst (λ x. Verdict (Gives x) (Refuses x)) (sym e) (at e)
equal Gives Refuses why (no n) at wrong only premise = refuses why (wrong n) (only n) (λ o g. n (premise o g))
