-- The encoding of signatures as types of System Fω (Rossberg, Russo, Dreyer, F-ing modules, section 4).
use Rattle.std.specs.Prelude.{zero, suc}
use Rattle.omega_kinds.specs.Kind.{Kind}
use Rattle.omega_kinds.specs.declared.label.Label.{Label}
use Rattle.omega_types.specs.Ty.{Ty, Row}
use Rattle.omega_types.specs.Substitution.{rename}
use Rattle.omega_types.specs.Binders.{all_over, ex_over}
use Rattle.omega_terms.specs.Coercions.{result_label}
use Rattle.sig_definitions.specs.Signatures.Sig.{Sig, Abs, SigRow}

-- a record type of one field
abbrev pub one_part : Label → Ty → Ty
one_part l t = Ty.Fields (Row.More l t Row.End)

-- the type of the identity at a type of kind k, whatever it is put into
abbrev pub shown_type : Ty → Kind → Ty
shown_type t k = let u = Ty.Apply (Ty.Var zero) (rename suc t) in Ty.All (Kind.Arrow k Kind.Star) (Ty.Arrow u u)

abbrev mutual
  pub enc : Sig → Ty
  enc (Sig.Val t) = one_part Label.Val t
  enc (Sig.Typ t k) = one_part Label.Typ (shown_type t k)
  enc (Sig.Meta x) = one_part Label.Sig (Ty.Arrow (enc_abs x) (enc_abs x))
  enc (Sig.Str fs) = Ty.Fields (enc_row fs)
  enc (Sig.Fun e ks s x) = all_over ks (Ty.Arrow (enc s) (one_part (result_label e) (enc_abs x)))

  pub enc_abs : Abs → Ty
  enc_abs (Abs.Ex ks s) = ex_over ks (enc s)

  pub enc_row : SigRow → Row
  enc_row SigRow.End = Row.End
  enc_row (SigRow.More l s rest) = Row.More (Label.Name l) (enc s) (enc_row rest)
