-- Links and foreign units of short lists.
use Rattle.std.specs.Prelude.{ℕ, zero, suc, [], ◌∷◌, ◌≡◌, ◌≢◌, ◌<◌}
use Rattle.std.proofs.Common.{arith}
use Rattle.std.proofs.Math.Path.{refl, ap}
use Rattle.omega_kinds.specs.declared.effect.Effect.TheVariants.{Pure}
use Rattle.omega_kinds.specs.Name.{Name}
use Rattle.omega_terms.specs.Term.{Term, TermRow}
use Rattle.sig_definitions.specs.Signatures.Sig.{Sig, Abs, SigRow, Module, made}
use Rattle.module_judgments.specs.Sequence.{Collected}
use Rattle.unit_judgments.specs.Interfaces.{Interface, sig_in}
use Rattle.unit_judgments.specs.Link.{LinkGives, UnitUnder, Differs, Foreign, Links}
use Rattle.unit_judgments.proofs.Walks.{own-same, walk-of, differs-of}

-- no units link to the empty structure
no-units : Links [] (made Pure (Abs.Ex [] (Sig.Str SigRow.End)) [] (Term.Fields TermRow.End))
no-units = Links.links (own-same [] tt) (LinkGives.end Collected.none)

heads : {i j : Interface} → i ∷ [] ≡ j ∷ [] → i ≡ j
heads e = cc

not-none : {i : Interface} → i ∷ [] ≡ [] → ⊥
not-none e = cc

-- a unit that stands under the interface of another one is foreign after one of another signature
second-foreign : (x y : Name) (a : Abs) (M N : Module) → a ≢ sig_in M → Foreign (UnitUnder [] x M ∷ UnitUnder ((x, a) ∷ []) y N ∷ []) 1
second-foreign x y a M N d = (differs-of (λ e. d (ap (λ (i : Interface). i.1) (heads e))), earlier)
  where
    earlier : (m : ℕ) → m < 1 → Differs (UnitUnder [] x M ∷ UnitUnder ((x, a) ∷ []) y N ∷ []) m → ⊥
    earlier zero lt w = walk-of w refl
    earlier (suc m) lt w = absurd (omega (arith, lt))

-- and it is foreign where it comes first
first-foreign : (x y : Name) (M N : Module) → Foreign (UnitUnder ((x, sig_in M) ∷ []) y N ∷ UnitUnder [] x M ∷ []) 0
first-foreign x y M N = (differs-of (λ e. not-none e), λ m lt w. absurd (omega (arith, lt)))
