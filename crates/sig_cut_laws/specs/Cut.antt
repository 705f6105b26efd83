-- What a path meets of a signature.
use Rattle.std.specs.Prelude.{List, [], ◌∷◌}
use Rattle.omega_kinds.specs.Kind.{Kind}
use Rattle.omega_kinds.specs.declared.effect.Effect.TheVariants.{Pure}
use Rattle.omega_kinds.specs.Name.{Name}
use Rattle.sig_definitions.specs.Signatures.Sig.{Sig, Abs, SigRow, HasField}
use Rattle.sig_definitions.specs.Explicit.SigPath.{SigPath, Item}

-- CutTo p s c: c is s without fields that the path p does not meet; of a structure on the path it has all fields, or the
-- one that the path names
pub data CutTo : SigPath → Sig → Sig → Type 0 where
  whole : {p : SigPath} {s : Sig} → CutTo p s s
  field : {fs : SigRow} {l : Name} {s c : Sig} {p : SigPath}
      → HasField fs l s
      → CutTo p s c
      → CutTo (Item.Part l ∷ p) (Sig.Str fs) (Sig.Str (SigRow.More l c SigRow.End))
  result : {ks : List Kind} {a r c : Sig} {p : SigPath}
      → CutTo p r c
      → CutTo (Item.Res ∷ p) (Sig.Fun Pure ks a (Abs.Ex [] r)) (Sig.Fun Pure ks a (Abs.Ex [] c))
