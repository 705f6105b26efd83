-- Legible terms stay legible under renaming and in normal form, and what is made of legible terms and types is legible.
-- Main results: ren_term-legible, instance-legible, packs-legible, opens-legible.
use Rattle.std.specs.Prelude.{ℕ, suc, List, [], ◌∷◌, Option, Some, None}
use Rattle.std.proofs.Math.Path.{refl}
use Rattle.omega_kinds.specs.Kind.{Kind}
use Rattle.omega_kinds.specs.declared.label.Label.{Label}
use Rattle.omega_kinds.specs.declared.effect.Effect.{Effect}
use Rattle.omega_kinds.specs.declared.effect.Effect.TheVariants.{Pure, Impure}
use Rattle.omega_types.specs.Ty.{Ty, lift}
use Rattle.omega_terms.specs.declared.version.Version.{Version}
use Rattle.omega_terms.specs.Term.{Term, TermRow}
use Rattle.omega_terms.specs.TermSubst.{ren_term, ren_fields}
use Rattle.omega_terms.specs.Instance.{TyInstance, Instance, Instances}
use Rattle.omega_terms.specs.Shorthands.{ty_lam_over, insts, Packs, opens_after, opens}
use Rattle.omega_terms.specs.PartTerms.{one_field, type_term}
use Rattle.omega_terms.specs.Coercions.{result_label, coerced, functor_part}
use Rattle.omega_spelling.specs.Spelled.{LabelSpelled}
use Rattle.elab_spelling.specs.Legible.{TyLegible, TypesLegible, TermLegible, TermRowLegible}
use Rattle.elab_spelling.proofs.Types.{AllLegible, rename-legible, under-legible, substitute-legible, instantiate-legible}
use Rattle.elab_spelling.proofs.Forms.{form-legible}

module _ (v : Version) where
  mutual
    -- renaming keeps a term legible
    pub ren_term-legible : (q r : ℕ → ℕ) (e : Term) → TermLegible v e → TermLegible v (ren_term q r e)
    ren_term-legible q r (Term.Var n) h = tt
    ren_term-legible q r (Term.Int z) h = h
    ren_term-legible q r (Term.Bool b) h = tt
    ren_term-legible q r (Term.Text s) h = h
    ren_term-legible q r (Term.Lam t e) h = (rename-legible v q t h.0, ren_term-legible q (lift r) e h.1)
    ren_term-legible q r (Term.Call f a) h = (ren_term-legible q r f h.0, ren_term-legible q r a h.1)
    ren_term-legible q r (Term.TyLam k e) h = ren_term-legible (lift q) r e h
    ren_term-legible q r (Term.Inst e t) h = (ren_term-legible q r e h.0, rename-legible v q t h.1)
    ren_term-legible q r (Term.Fields row) h = ren_fields-legible q r None row h
    ren_term-legible q r (Term.Get e l) h = (ren_term-legible q r e h.0, h.1)
    ren_term-legible q r (Term.Pack t e u) h = (rename-legible v q t h.0, ren_term-legible q r e h.1, rename-legible v q u h.2)
    ren_term-legible q r (Term.Unpack p e) h = (ren_term-legible q r p h.0, ren_term-legible (lift q) (lift r) e h.1)
    ren_term-legible q r (Term.If a b c) h = (ren_term-legible q r a h.0, ren_term-legible q r b h.1, ren_term-legible q r c h.2)
    ren_term-legible q r (Term.Arith o a b) h = (ren_term-legible q r a h.0, ren_term-legible q r b h.1)
    ren_term-legible q r (Term.Fix t u e) h = (rename-legible v q t h.0, rename-legible v q u h.1, ren_term-legible q (lift (lift r)) e h.2)
    ren_term-legible q r (Term.Inj l e t) h = (h.0, h.1, ren_term-legible q r e h.2, rename-legible v q t h.3)
    ren_term-legible q r (Term.Case e t row) h = (h.0, ren_term-legible q r e h.1, rename-legible v q t h.2, ren_fields-legible q (lift r) None row h.3)
    ren_term-legible q r (Term.Roll e t) h = (h.0, ren_term-legible q r e h.1, rename-legible v q t h.2)
    ren_term-legible q r (Term.Unroll e) h = (h.0, ren_term-legible q r e h.1)

    ren_fields-legible : (q r : ℕ → ℕ) (last : Option Label) (row : TermRow) → TermRowLegible v last row → TermRowLegible v last (ren_fields q r row)
    ren_fields-legible q r last TermRow.End h = tt
    ren_fields-legible q r last (TermRow.More l e rest) h = (h.0, h.1, ren_term-legible q r e h.2, ren_fields-legible q r (Some l) rest h.3)

  ty_instance-legible : {from to : List Kind} {s : ℕ → Ty} {t n : Ty} {k : Kind} → AllLegible v s → TyInstance from to s t k n → TyLegible v t → TyLegible v n
  ty_instance-legible {s = s} {t = t} f (TyInstance.made n g) h = form-legible v g (substitute-legible v s t f h)

  mutual
    -- an instance of a legible term at legible types is legible
    pub instance-legible : {from to : List Kind} {s : ℕ → Ty} {e d : Term} → AllLegible v s → Instance from to s e d → TermLegible v e → TermLegible v d
    instance-legible f Instance.var h = tt
    instance-legible f Instance.int h = h
    instance-legible f Instance.bool h = tt
    instance-legible f Instance.text h = h
    instance-legible f (Instance.lam t e) h = (ty_instance-legible f t h.0, instance-legible f e h.1)
    instance-legible f (Instance.call e d) h = (instance-legible f e h.0, instance-legible f d h.1)
    instance-legible {s = s} f (Instance.ty_lam e) h = instance-legible (under-legible v s f) e h
    instance-legible f (Instance.inst e t) h = (instance-legible f e h.0, ty_instance-legible f t h.1)
    instance-legible f (Instance.fields row) h = instances-legible None f row h
    instance-legible f (Instance.get e) h = (instance-legible f e h.0, h.1)
    instance-legible f (Instance.pack t e u) h = (ty_instance-legible f t h.0, instance-legible f e h.1, ty_instance-legible f u h.2)
    instance-legible {s = s} f (Instance.unpack k p e) h = (instance-legible f p h.0, instance-legible (under-legible v s f) e h.1)
    instance-legible f (Instance.if_ a b c) h = (instance-legible f a h.0, instance-legible f b h.1, instance-legible f c h.2)
    instance-legible f (Instance.arith a b) h = (instance-legible f a h.0, instance-legible f b h.1)
    instance-legible f (Instance.fix t u e) h = (ty_instance-legible f t h.0, ty_instance-legible f u h.1, instance-legible f e h.2)
    instance-legible f (Instance.inj e t) h = (h.0, h.1, instance-legible f e h.2, ty_instance-legible f t h.3)
    instance-legible f (Instance.case e t row) h = (h.0, instance-legible f e h.1, ty_instance-legible f t h.2, instances-legible None f row h.3)
    instance-legible f (Instance.roll e t) h = (h.0, instance-legible f e h.1, ty_instance-legible f t h.2)
    instance-legible f (Instance.unroll e) h = (h.0, instance-legible f e h.1)

    instances-legible : {from to : List Kind} {s : ℕ → Ty} {row other : TermRow} (last : Option Label) → AllLegible v s → Instances from to s row other
        → TermRowLegible v last row → TermRowLegible v last other
    instances-legible last f Instances.end h = tt
    instances-legible last f (Instances.more {l = l} e rest) h = (h.0, h.1, instance-legible f e h.2, instances-legible (Some l) f rest h.3)

  -- shorthands

  -- a legible term under type abstractions is legible
  pub ty_lam_over-legible : (ks : List Kind) (e : Term) → TermLegible v e → TermLegible v (ty_lam_over ks e)
  ty_lam_over-legible [] e h = h
  ty_lam_over-legible (k ∷ ks) e h = ty_lam_over-legible ks e h

  -- a legible term at legible types is legible
  pub insts-legible : (e : Term) (ts : List Ty) → TermLegible v e → TypesLegible v ts → TermLegible v (insts e ts)
  insts-legible e [] h g = h
  insts-legible e (t ∷ ts) h g = insts-legible (Term.Inst e t) ts (h, g.0) g.1

  -- legible types packed into a legible term give a legible one
  pub packs-legible : {ctx : List Kind} {ts : List Ty} {e d : Term} {u : Ty} → Packs ctx ts e u d → TypesLegible v ts → TermLegible v e → TyLegible v u
      → TermLegible v d
  packs-legible Packs.none g h f = h
  packs-legible (Packs.next {t = t} {body = body} n p) g h f = (g.0, packs-legible p g.1 h (form-legible v n (instantiate-legible v body t f g.0)), f)

  opens_after-legible : (ks : List Kind) (e : Term) → TermLegible v e → TermLegible v (opens_after ks e)
  opens_after-legible [] e h = h
  opens_after-legible (k ∷ ks) e h = (tt, opens_after-legible ks e h)

  -- a legible package opened around a legible body is legible
  pub opens-legible : (ks : List Kind) (e : Term) (u : Ty) (body : Term) → TermLegible v e → TyLegible v u → TermLegible v body
      → TermLegible v (opens ks e u body)
  opens-legible [] e u body h f g = ((f, g), h)
  opens-legible (k ∷ ks) e u body h f g = (h, opens_after-legible ks body g)

  -- parts of modules

  -- a record of one legible field is legible
  pub one_field-legible : (l : Label) (e : Term) → LabelSpelled l → TermLegible v e → TermLegible v (one_field l e)
  one_field-legible l e s h = (refl, s, h, tt)

  -- the term that shows a legible type is legible
  pub type_term-legible : (t : Ty) (k : Kind) → TyLegible v t → TermLegible v (type_term t k)
  type_term-legible t k h = (refl, tt, ((tt, rename-legible v suc t h), tt), tt)

  -- coercions

  -- the label of a functor's result is spelled
  pub result_label-spelled : (f : Effect) → LabelSpelled (result_label f)
  result_label-spelled Pure = tt
  result_label-spelled Impure = tt

  -- coerced fields are legible if the coercions are
  pub coerced-legible : (last : Option Label) (row : TermRow) → TermRowLegible v last row → TermRowLegible v last (coerced row)
  coerced-legible last TermRow.End h = tt
  coerced-legible last (TermRow.More l e rest) h = (h.0, h.1, (h.2, (tt, h.1)), coerced-legible (Some l) rest h.3)

  -- the coercion of a functor is legible if its parts are
  pub functor_part-legible : (from : Ty) (left right : Effect) (ks : List Kind) (param : Ty) (ts : List Ty) (f g : Term)
      → TyLegible v from → TyLegible v param → TypesLegible v ts → TermLegible v f → TermLegible v g → TermLegible v
      (functor_part from left right ks param ts f g)
  functor_part-legible from left right ks param ts f g a b c h i =
      let result = Term.Get (Term.Call (insts (Term.Var 1) ts) (Term.Call f (Term.Var 0))) (result_label left) in
      let made : TermLegible v result = ((insts-legible (Term.Var 1) ts tt c, (h, tt)), result_label-spelled left) in
      let field = one_field-legible (result_label right) (Term.Call g result) (result_label-spelled right) (i, made) in
      (a, ty_lam_over-legible ks (Term.Lam param (one_field (result_label right) (Term.Call g result))) (b, field))
