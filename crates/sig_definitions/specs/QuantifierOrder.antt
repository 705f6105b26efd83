-- The order of the quantifiers of a package type, and the signature with its quantifiers in that order: packages are those
-- of Rossberg, Russo, Dreyer, F-ing modules, section 6, the order is own.
use Rattle.std.specs.Prelude.{ℕ, zero, suc, List, [], ◌∷◌, ◌≢◌, ◌<◌, ◌==◌, nat_lt, cond, length, map}
use Rattle.omega_kinds.specs.Kind.{Kind}
use Rattle.omega_kinds.specs.declared.effect.Effect.TheVariants.{Pure, Impure}
use Rattle.omega_kinds.specs.Name.{Name}
use Rattle.omega_types.specs.Ty.{Ty}
use Rattle.omega_types.specs.Normaliser.{kind_at}
use Rattle.omega_types.specs.Binders.{extend, own}
use Rattle.sig_definitions.specs.Signatures.Sig.{Sig, Abs, SigRow}
use Rattle.sig_definitions.specs.Signatures.SigSubst.{rename_sig, rename_abs}
use Rattle.sig_definitions.specs.Explicit.SigPath.{SigPath, PathBefore}
use Rattle.sig_definitions.specs.Explicit.RootPath.{Rooted, ParamsAvoid}

-- a number that is none of these
abbrev pub IsNoneOf : ℕ → List ℕ → Type 0
IsNoneOf number [] = Unit {0}
IsNoneOf number (i ∷ more) = (number ≢ i) × IsNoneOf number more

-- a variable of the binders that is none of those taken
abbrev pub Untaken : List Kind → List ℕ → ℕ → Type 0
Untaken ks taken number = (number < length ks) × IsNoneOf number taken

-- Counts ctx ks s taken number p: the untaken variable is rooted at p, and the functor parameters on p mention no
-- untaken variable
pub data Counts (ctx ks : List Kind) (s : Sig) (taken : List ℕ) (number : ℕ) (p : SigPath) : Type 0 where
  counts : Untaken ks taken number
      → Rooted (extend ctx ks) s (own ks number) p
      → ((j : ℕ) → Untaken ks taken j → ParamsAvoid (extend ctx ks) s p (own ks j))
      → Counts ctx ks s taken number p

-- the variables one after the other, at each turn the one with the least path that counts
pub data Taking (ctx ks : List Kind) (s : Sig) : (taken order : List ℕ) → Type 0 where
  done : {taken : List ℕ} → ((j : ℕ) → Untaken ks taken j → ⊥) → Taking ctx ks s taken []
  next : {taken order : List ℕ} {number : ℕ} {p : SigPath}
      → Counts ctx ks s taken number p
      → ((j : ℕ) (q : SigPath) → Counts ctx ks s taken j q → PathBefore q p → ⊥)
      → Taking ctx ks s (number ∷ taken) order
      → Taking ctx ks s taken (number ∷ order)

-- the numbers of the variables in the new order
abbrev pub NewOrder : List Kind → List Kind → Sig → List ℕ → Type 0
NewOrder ctx ks s order = Taking ctx ks s [] order

-- the kinds in the new order
abbrev pub reordered : List Kind → List ℕ → List Kind
reordered ks order = map (kind_at ks) order

-- the place of a number in the order
abbrev pub place : List ℕ → ℕ → ℕ
place [] number = zero
place (i ∷ order) number = cond (number == i) zero (suc (place order number))

-- what becomes of an index: the variables of the binders get their new places, each other variable stays
abbrev pub renumber : List Kind → List ℕ → ℕ → ℕ
renumber ks order i = cond (nat_lt i (length ks)) (own ks (place order (own ks i))) i

-- Norm: every quantifier inside gets its order, except that the variables of a pure functor's parameter keep theirs,
-- since lifted types are applied to them in it
mutual
  pub data NormSig : List Kind → Sig → Sig → Type 0 where
    val : {ctx : List Kind} {t : Ty} → NormSig ctx (Sig.Val t) (Sig.Val t)
    typ : {ctx : List Kind} {t : Ty} {k : Kind} → NormSig ctx (Sig.Typ t k) (Sig.Typ t k)
    meta : {ctx : List Kind} {x y : Abs} → Norm ctx x y → NormSig ctx (Sig.Meta x) (Sig.Meta y)
    str : {ctx : List Kind} {fs gs : SigRow} → NormRow ctx fs gs → NormSig ctx (Sig.Str fs) (Sig.Str gs)
    pure : {ctx ks : List Kind} {s t r q : Sig}
        → NormSig (extend ctx ks) s t
        → NormSig (extend ctx ks) r q
        → NormSig ctx (Sig.Fun Pure ks s (Abs.Ex [] r)) (Sig.Fun Pure ks t (Abs.Ex [] q))
    impure : {ctx ks : List Kind} {s t : Sig} {x y : Abs} {order : List ℕ}
        → NormSig (extend ctx ks) s t
        → NewOrder ctx ks t order
        → Norm (extend ctx ks) x y
        → NormSig ctx (Sig.Fun Impure ks s x) (Sig.Fun Impure (reordered ks order) (rename_sig (renumber ks order) t) (rename_abs (renumber ks order) y))

  pub data Norm : List Kind → Abs → Abs → Type 0 where
    ex : {ctx ks : List Kind} {s t : Sig} {order : List ℕ}
        → NormSig (extend ctx ks) s t
        → NewOrder ctx ks t order
        → Norm ctx (Abs.Ex ks s) (Abs.Ex (reordered ks order) (rename_sig (renumber ks order) t))

  pub data NormRow : List Kind → SigRow → SigRow → Type 0 where
    end : {ctx : List Kind} → NormRow ctx SigRow.End SigRow.End
    more : {ctx : List Kind} {l : Name} {s t : Sig} {fs gs : SigRow}
        → NormSig ctx s t
        → NormRow ctx fs gs
        → NormRow ctx (SigRow.More l s fs) (SigRow.More l t gs)
