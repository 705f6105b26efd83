-- How signatures are spelled.
use Rattle.std.specs.Prelude.{ℕ, ◌+◌, List, [], ◌∷◌, codes, length}
use Rattle.omega_kinds.specs.Text.{◌then◌}
use Rattle.omega_kinds.specs.Kind.{Kind}
use Rattle.omega_kinds.specs.declared.effect.Effect.{Effect}
use Rattle.omega_kinds.specs.declared.effect.Effect.TheVariants.{Pure, Impure}
use Rattle.omega_terms.specs.KindText.{kind_text}
use Rattle.omega_terms.specs.TypeText.{ty_text}
use Rattle.sig_definitions.specs.Signatures.Sig.{Sig, Abs, SigRow}

-- each further kind has a space before it
abbrev pub more_kinds_text : List Kind → List ℕ
more_kinds_text [] = []
more_kinds_text (k ∷ ks) = codes " " then kind_text k then more_kinds_text ks

abbrev pub kind_list_text : Kind → List Kind → List ℕ
kind_list_text k ks = kind_text k then more_kinds_text ks

abbrev pub kinds_text : List Kind → List ℕ
kinds_text [] = codes "()"
kinds_text (k ∷ ks) = codes "(" then kind_list_text k ks then codes ")"

abbrev pub functor_front : Effect → List ℕ
functor_front Pure = codes "(fun app "
functor_front Impure = codes "(fun gen "

-- a signature with n type variables in scope
abbrev mutual
  pub sig_text : ℕ → Sig → List ℕ
  sig_text n (Sig.Val t) = codes "(val " then ty_text n t then codes ")"
  sig_text n (Sig.Typ t k) = codes "(type " then ty_text n t then codes " " then kind_text k then codes ")"
  sig_text n (Sig.Meta x) = codes "(sig " then abs_text n x then codes ")"
  sig_text n (Sig.Str fs) = codes "(str" then sig_row_text n fs then codes ")"
  sig_text n (Sig.Fun e ks s x) =
      functor_front e then kinds_text ks then codes " " then sig_text (n + length ks) s then codes " " then abs_text (n + length ks) x then codes ")"

  pub abs_text : ℕ → Abs → List ℕ
  abs_text n (Abs.Ex ks s) = codes "(ex " then kinds_text ks then codes " " then sig_text (n + length ks) s then codes ")"

  -- each field has a space before it, and its name is spelled by its own bytes
  pub sig_row_text : ℕ → SigRow → List ℕ
  sig_row_text n SigRow.End = []
  sig_row_text n (SigRow.More l s rest) =
      codes " (" then l then codes " " then sig_text n s then codes ")" then sig_row_text n rest

abbrev pub effect_text : Effect → List ℕ
effect_text Pure = codes "pure "
effect_text Impure = codes "impure "

-- an effect and a closed signature, on a line
abbrev pub elab_text : Effect → Abs → List ℕ
elab_text e x = effect_text e then abs_text 0 x then codes "\n"
