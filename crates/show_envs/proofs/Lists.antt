-- Entries that go from the end of a list to the front of an environment.
use Rattle.std.proofs.Common.{◌≡◌, ◌++◌, ◌∷◌, [], List, map, refl, ap, sym, ◌∙◌}
use Rattle.sig_definitions.specs.Env.{Env}
use Rattle.semantic_sigs.specs.declared.env.Entry.{Entry}
use Rattle.semantic_sigs.specs.Inner.Entries.{entry_of}

pub moved : (es : List Entry) (e : Entry) (g : Env) → map entry_of (es ++ e ∷ []) ++ g ≡ map entry_of es ++ entry_of e ∷ g
moved [] e g = refl
moved (x ∷ es) e g = ap (λ (h : Env). entry_of x ∷ h) (moved es e g)

pub ended : (g : Env) → g ++ [] ≡ g
ended [] = refl
ended (x ∷ g) = ap (λ (h : Env). x ∷ h) (ended g)

-- an entry more that is taken: xs are those that were taken, ys those with it
pub taken : (xs ys : List Entry) (e : Entry) (old new all : Env) → ys ≡ xs ++ e ∷ [] → old ≡ entry_of e ∷ new → map entry_of xs ++ old ≡ all → map entry_of ys ++ new ≡ all
taken xs ys e old new all p q r = ap (λ (zs : List Entry). map entry_of zs ++ new) p ∙ (moved xs e new ∙ (ap (λ (h : Env). map entry_of xs ++ h) (sym q) ∙ r))

-- an entry more that is given back: ys are those that were left, xs those without it
pub given : (xs ys : List Entry) (e : Entry) (old new all : Env) → ys ≡ xs ++ e ∷ [] → new ≡ entry_of e ∷ old → map entry_of ys ++ old ≡ all → map entry_of xs ++ new ≡ all
given xs ys e old new all p q r = ap (λ (h : Env). map entry_of xs ++ h) q ∙ (sym (moved xs e old) ∙ (ap (λ (zs : List Entry). map entry_of zs ++ old) (sym p) ∙ r))
