-- Subtyping of normal signatures is closed under substitution.
-- Main results: sub_substitute, sub_abs_substitute.
use Rattle.sig_laws.proofs.Formed.WellFormedLaws.{well_formed-substitute, well_formed_abs-substitute, explicit_results-substitute, explicit-substitute}
use Rattle.sig_match_laws.specs.AnyTypes.{SubSubstitute, SubAbsSubstitute}
use Rattle.sig_match_laws.proofs.AnyTypes.AnyTypesConv.{any-sub, any-abs}
use Rattle.sig_match_laws.proofs.AnyTypes.AnyTypes.{to-sub, to-abs}
use Rattle.sig_match_laws.proofs.AnyTypes.AnyTypesSubst.{sub-substitute, abs-substitute}

-- subtyping of normal signatures is kept by substitution, normal forms being taken afterwards
pub sub_substitute : SubSubstitute
sub_substitute ctx other s r f g w v h d = to-sub (sub-substitute g h (any-sub d w v)) (well_formed-substitute g h w.0) (well_formed-substitute g h v.0.0, explicit_results-substitute g h v.0.1)

-- subtyping of normal signatures that hide types is kept by substitution, normal forms being taken afterwards
pub sub_abs_substitute : SubAbsSubstitute
sub_abs_substitute ctx other x y f g w v h d = to-abs (abs-substitute g h (any-abs d w v)) (well_formed_abs-substitute g h w.0) (explicit-substitute g h v.0)
