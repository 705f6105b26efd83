-- The functions decide matching and subtyping on any types.
-- Main results: match_sig_refuses, sub_abs_finds.
use Rattle.std.specs.Prelude.{ℕ, List, ◌≡◌, ◌⊎◌}
use Rattle.std.proofs.Math.Logic.{inl, inr}
use Rattle.std.proofs.Common.{arith}
use Rattle.std.proofs.Math.Path.{sym, ◌∙◌, ap}
use Rattle.omega_kinds.specs.Kind.{Kind}
use Rattle.omega_types.specs.Ty.{Ty}
use Rattle.omega_types.specs.Binders.{extend}
use Rattle.omega_terms.specs.Term.{Term}
use Rattle.sig_definitions.specs.Signatures.Sig.{Abs}
use Rattle.sig_laws.specs.NormalSig.{normal_sig, normal_abs}
use Rattle.sig_definitions.specs.Explicit.WellFormed.{WellFormedAbs}
use Rattle.sig_definitions.specs.Matching.Subtyping.{Match}
use Rattle.sig_laws.proofs.Algebra.AlikeLaws.{conv_abs-sym, form-conv_abs, form_abs-normal, conv_abs-gives}
use Rattle.sig_laws.proofs.Formed.WellFormedLaws.{well_formed_abs-kinds, well_formed_abs-conv, explicit-kinds}
use Rattle.sig_definitions.specs.Matching.MatchRefusal.{MatchRefusal, RefusesMatch}
use Rattle.sig_match_laws.specs.MatchFunction.{MatchOutcome, match_sig}
use Rattle.sig_match_laws.proofs.Theorems.{match_or_refusal, match_sig_gives, sub_abs_gives}
use Rattle.sig_match_laws.specs.AnyTypes.{Matches, MatchSigRefuses, SubAbsFinds}
use Rattle.sig_match_laws.proofs.AnyTypes.AnyTypesConv.{any-abs, abs-conv}
use Rattle.sig_match_laws.proofs.AnyTypes.AnyTypes.{good-normal_abs, good-normal_sig, match_sig_finds, match_sig_matches, to-abs}
use Rattle.sig_laws.specs.Good.{OkAbs}

abbrev number_of : MatchOutcome → ℕ
number_of (MatchOutcome.matched ts f) = 0
number_of (MatchOutcome.refused q) = 1

-- the function refuses a match exactly where no types match
pub match_sig_refuses : MatchSigRefuses
match_sig_refuses ctx ks s t w v = (never, give)
  where
    never : (q : MatchRefusal) × (match_sig ctx (normal_sig ctx s) (Abs.Ex ks (normal_sig (extend ctx ks) t)) ≡ MatchOutcome.refused q) → (ts : List Ty) → Matches ctx s (Abs.Ex ks t) ts → ⊥
    never r ts m = let z = match_sig_finds ctx ks s t ts w v m in let e = ap number_of (sym z.2 ∙ r.1) in omega (arith, e)

    give : ((ts : List Ty) → Matches ctx s (Abs.Ex ks t) ts → ⊥) → (q : MatchRefusal) × (match_sig ctx (normal_sig ctx s) (Abs.Ex ks (normal_sig (extend ctx ks) t)) ≡ MatchOutcome.refused q)
    give n = go (match_or_refusal ctx (normal_sig ctx s) (Abs.Ex ks (normal_sig (extend ctx ks) t)) (good-normal_sig w) (good-normal_abs v))
      where
        go : ((ts : List Ty) × (f : Term) × Match ctx (normal_sig ctx s) (Abs.Ex ks (normal_sig (extend ctx ks) t)) ts f) ⊎ ((q : MatchRefusal) × RefusesMatch ctx (normal_sig ctx s) (Abs.Ex ks (normal_sig (extend ctx ks) t)) q) → (q : MatchRefusal) × (match_sig ctx (normal_sig ctx s) (Abs.Ex ks (normal_sig (extend ctx ks) t)) ≡ MatchOutcome.refused q)
        go (inl m) = absurd (n m.0 (match_sig_matches ctx ks s t m.0 m.1 w v (((match_sig_gives ctx (normal_sig ctx s) (Abs.Ex ks (normal_sig (extend ctx ks) t)) (good-normal_sig w) (good-normal_abs v)).0 m.0 m.1).1 m.2)))
        go (inr r) = (r.0, ((match_sig_gives ctx (normal_sig ctx s) (Abs.Ex ks (normal_sig (extend ctx ks) t)) (good-normal_sig w) (good-normal_abs v)).1 r.0).1 r.1)

good-left_abs : {ctx : List Kind} {x : Abs} → WellFormedAbs ctx x → OkAbs ctx (normal_abs ctx x)
good-left_abs w = let f = conv_abs-gives (well_formed_abs-kinds w) in (well_formed_abs-conv w (form-conv_abs f), form_abs-normal f)

-- the function finds a coercion exactly where one signature that hides types is a subtype of the other
pub sub_abs_finds : SubAbsFinds
sub_abs_finds ctx x y w v = (λ a. let z = to-abs a w v in (z.0, ((sub_abs_gives ctx (normal_abs ctx x) (normal_abs ctx y) (good-left_abs w) (good-normal_abs v)).0 z.0).1 z.1), λ r. abs-conv (any-abs (((sub_abs_gives ctx (normal_abs ctx x) (normal_abs ctx y) (good-left_abs w) (good-normal_abs v)).0 r.0).0 r.1) (good-left_abs w) (good-normal_abs v)) (conv_abs-sym (form-conv_abs (conv_abs-gives (well_formed_abs-kinds w)))) (conv_abs-sym (form-conv_abs (conv_abs-gives (explicit-kinds v)))))
