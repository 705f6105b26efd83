-- A signature of normal types has its variables in scope, where neither it nor its encoding is too high for their levels, and
-- so have a type and a term that were confirmed.
-- Main results: compiled-normal, confirmed-type, confirmed-term.
use Rattle.std.proofs.Common.{◌≡◌, ℕ, ◌+◌, ◌^◌, ◌≤◌, List, [], ◌∷◌, length, arith, refl, sym, subst, ◌∙◌}
use Rattle.omega_kinds.specs.Kind.{Kind}
use Rattle.omega_kinds.specs.declared.effect.Effect.{Effect}
use Rattle.omega_types.specs.Binders.{extend, all_over, ex_over}
use Rattle.omega_types.specs.Height.{height}
use Rattle.omega_types.specs.Ty.{Ty}
use Rattle.omega_types.proofs.Preservation.{normal-kind}
use Rattle.omega_terms.specs.Coercions.{result_label}
use Rattle.omega_terms.specs.Height.{term_height}
use Rattle.omega_terms.specs.InScope.{TyInScope, TermInScope}
use Rattle.omega_terms.specs.Term.{Term}
use Rattle.omega_terms.specs.Typing.{HasType}
use Rattle.omega_terms.proofs.TypingLaws.{good-none, type-kind}
use Rattle.omega_checker.specs.Judgment.{Judgment, Derived}
use Rattle.sig_definitions.specs.Signatures.Sig.{Sig, Abs, SigRow, made}
use Rattle.sig_definitions.specs.Signatures.Alike.{NormalSig, NormalAbs, NormalSigRow}
use Rattle.sig_definitions.specs.Signatures.Encoding.{enc, enc_abs, enc_row, one_part}
use Rattle.semantic_sigs.specs.Inner.Height.{sig_height, abs_height, sig_row_height}
use Rattle.sig_text.specs.Inner.SigInScope.{SigInScope, AbsInScope, SigRowInScope}
use Rattle.fing_syntax.specs.Phrase.{Binds as Program}
use Rattle.elab_judgments.specs.Judgments.Program.{ProgramMeans}
use Rattle.elab_laws.proofs.Kept.{binds_ok}
use Rattle.elab_spelling.proofs.Scopes.{ty-scope, closed-type, closed-term}
use Rattle.fing_top.specs.Inner.Compiled.{IsCompiled}
use Rattle.fing_top.specs.declared.compiling.Compiled.{Compiled}

all-high : (ks : List Kind) (t : Ty) → height (all_over ks t) ≡ length ks + height t
all-high [] t = omega arith
all-high (k ∷ ks) t = omega (arith, all-high ks t)

ex-high : (ks : List Kind) (t : Ty) → height (ex_over ks t) ≡ length ks + height t
ex-high [] t = omega arith
ex-high (k ∷ ks) t = omega (arith, ex-high ks t)

-- the variables in scope under binders
longer : (ctx ks : List Kind) (n : ℕ) → n ≡ length ctx → n + length ks ≡ length (extend ctx ks)
longer ctx [] n e = omega (arith, e)
longer ctx (k ∷ ks) n e = let h = longer (k ∷ ctx) ks (n + 1) (omega (arith, e)) in omega (arith, h)

-- the height of the encoding bounds the number of binders, which that of the signature leaves out
mutual
  sig-scope : (ctx : List Kind) (s : Sig) (n : ℕ) → n ≡ length ctx → n + height (enc s) ≤ 2 ^ 63 → sig_height s ≤ 2 ^ 63 → NormalSig ctx s → SigInScope n s
  sig-scope ctx (Sig.Val t) n e b h k = ty-scope n e (omega (arith, b, h)) (normal-kind k)
  sig-scope ctx (Sig.Typ t j) n e b h k = ty-scope n e (omega (arith, b, h)) (normal-kind k)
  sig-scope ctx (Sig.Meta x) n e b h k = abs-scope ctx x n e (omega (arith, b)) (omega (arith, h)) k
  sig-scope ctx (Sig.Str fs) n e b h k = row-scope ctx fs n e (omega (arith, b)) (omega (arith, h)) k
  sig-scope ctx (Sig.Fun f ks s x) n e b h k =
      let q = all-high ks (Ty.Arrow (enc s) (one_part (result_label f) (enc_abs x))) in
      let l = longer ctx ks n e in (
        omega (arith, b, q),
        sig-scope (extend ctx ks) s (n + length ks) l (omega (arith, b, q)) (omega (arith, h)) k.0,
        abs-scope (extend ctx ks) x (n + length ks) l (omega (arith, b, q)) (omega (arith, h)) k.1,
      )

  abs-scope : (ctx : List Kind) (x : Abs) (n : ℕ) → n ≡ length ctx → n + height (enc_abs x) ≤ 2 ^ 63 → abs_height x ≤ 2 ^ 63 → NormalAbs ctx x → AbsInScope n x
  abs-scope ctx (Abs.Ex ks s) n e b h k =
      let q = ex-high ks (enc s) in
      (omega (arith, b, q), sig-scope (extend ctx ks) s (n + length ks) (longer ctx ks n e) (omega (arith, b, q)) (omega (arith, h)) k)

  row-scope : (ctx : List Kind) (fs : SigRow) (n : ℕ) → n ≡ length ctx → n + height (Ty.Fields (enc_row fs)) ≤ 2 ^ 63 → sig_row_height fs ≤ 2 ^ 63 → NormalSigRow ctx fs
      → SigRowInScope n fs
  row-scope ctx SigRow.End n e b h k = tt
  row-scope ctx (SigRow.More l s rest) n e b h k =
      (sig-scope ctx s n e (omega (arith, b)) (omega (arith, h)) k.0, row-scope ctx rest n e (omega (arith, b)) (omega (arith, h)) k.1)

-- ---- what is compiled and what is confirmed

means-normal : (program : Program) (f : Effect) (x : Abs) (ts : List Ty) (e whole : Term) → ProgramMeans program (made f x ts e) whole → NormalAbs [] x
means-normal program f (Abs.Ex ks s) ts e whole (ProgramMeans.program b p) = (binds_ok [] [] program (made f (Abs.Ex ks s) ts e) tt tt b).0.1

-- the signature of a compiled program is normal
pub compiled-normal : (bytes : List ℕ) (c : Compiled) → IsCompiled bytes c → NormalAbs [] c.sig
compiled-normal bytes c h = means-normal h.program c.effect c.sig h.types h.term c.checked.term h.means.derived

-- what is compiled has the encoding of its signature as its type
pub closed-signature : (x : Abs) (t : Ty) (low high : ℕ) → NormalAbs [] x → t ≡ enc_abs x → abs_height x ≤ low → low ≤ 8192 → height t ≤ high → high ≤ 8192 → AbsInScope 0 x
closed-signature x t low high k same a b c d =
    let e : height (enc_abs x) ≤ high = subst (λ (u : Ty). height u ≤ high) same c in
    abs-scope [] x 0 refl (omega (arith, d, e)) (omega (arith, a, b)) k

-- a confirmed type that is not too high has its variables in scope
pub confirmed-type : (j : Judgment) (t : Ty) (high : ℕ) → t ≡ j.ty → Derived j → height t ≤ high → high ≤ 8192 → TyInScope 0 t
confirmed-type j t high same typed a b = closed-type (type-kind (good-none []) (subst (λ (u : Ty). HasType [] [] j.term u) (sym same) typed)) (omega (arith, a, b))

-- a confirmed term that is not too high has its variables in scope
pub confirmed-term : (j : Judgment) (e : Term) (high : ℕ) → e ≡ j.term → Derived j → term_height e ≤ high → high ≤ 8192 → TermInScope 0 0 e
confirmed-term j e high same typed a b = closed-term (subst (λ (d : Term). HasType [] [] d j.ty) (sym same) typed) (omega (arith, a, b))
