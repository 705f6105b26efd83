-- Paths into signatures, their order, and what a path leads to (Rossberg, Russo, Dreyer, F-ing modules, section 5; here
-- they go on through results of pure functors).
use Rattle.std.specs.Prelude.{List, [], ◌∷◌, ◌++◌, IsTrue}
use Rattle.omega_kinds.specs.Kind.{Kind}
use Rattle.omega_kinds.specs.declared.effect.Effect.TheVariants.{Pure}
use Rattle.omega_kinds.specs.Name.{Name}
use Rattle.omega_kinds.specs.LabelOrder.{name_before}
use Rattle.sig_definitions.specs.Signatures.Sig.{Sig, Abs, SigRow, HasField}

-- a field, a functor's parameter, its result, or what a signature part holds
pub data Item : Type 0 where
  Part : (name : Name) → Item
  Arg Res Meta : Item

abbrev pub SigPath : Type 0
SigPath = List Item

-- fields by their names, and a result after all fields
pub data ItemBefore : Item → Item → Type 0 where
  by_name : {l m : Name} → IsTrue (name_before l m) → ItemBefore (Item.Part l) (Item.Part m)
  part_result : {l : Name} → ItemBefore (Item.Part l) Item.Res

-- item by item, a path before all that it begins
pub data PathBefore : SigPath → SigPath → Type 0 where
  begins : {a : Item} {p : SigPath} → PathBefore [] (a ∷ p)
  first : {a b : Item} {p q : SigPath} → ItemBefore a b → PathBefore (a ∷ p) (b ∷ q)
  later : {a : Item} {p q : SigPath} → PathBefore p q → PathBefore (a ∷ p) (a ∷ q)

-- PartAt s p bs q: the path goes through fields and results of pure functors to q, which stands under those
-- functors' variables bs
pub data PartAt : Sig → SigPath → List Kind → Sig → Type 0 where
  end : {s : Sig} → PartAt s [] [] s
  field : {fs : SigRow} {l : Name} {s q : Sig} {p : SigPath} {bs : List Kind} → HasField fs l s → PartAt s p bs q → PartAt (Sig.Str fs) (Item.Part l ∷ p) bs q
  result : {ks bs : List Kind} {s r q : Sig} {p : SigPath} → PartAt r p bs q → PartAt (Sig.Fun Pure ks s (Abs.Ex [] r)) (Item.Res ∷ p) (ks ++ bs) q

-- ParamOn s p ds ks t: the path goes through a pure functor with the parameter t over ks, which stands under the
-- variables ds of the functors before it
pub data ParamOn : Sig → SigPath → List Kind → List Kind → Sig → Type 0 where
  here : {ks : List Kind} {s r : Sig} {p : SigPath} → ParamOn (Sig.Fun Pure ks s (Abs.Ex [] r)) (Item.Res ∷ p) [] ks s
  field : {fs : SigRow} {l : Name} {s t : Sig} {p : SigPath} {ds ks : List Kind} → HasField fs l s → ParamOn s p ds ks t → ParamOn (Sig.Str fs) (Item.Part l ∷ p) ds ks t
  result : {ks ds js : List Kind} {s r t : Sig} {p : SigPath} → ParamOn r p ds js t → ParamOn (Sig.Fun Pure ks s (Abs.Ex [] r)) (Item.Res ∷ p) (ks ++ ds) js t
