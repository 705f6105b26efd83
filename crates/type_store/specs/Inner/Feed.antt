-- What a node feeds a hasher: one number.
use Rattle.std.specs.Prelude.{List, ℕ, ◌*◌, ◌%◌, ◌^◌, bit_xor, fold}
use Rattle.std.specs.Hash as fed
use Rattle.omega_kinds.specs.Kind.{Kind}
use Rattle.omega_kinds.specs.declared.label.Label.{Label}
use Rattle.omega_kinds.specs.declared.label.Label.TheVariants.{Val, Typ, Sig, App, Gen}
use Rattle.type_store.specs.Shape.{Shape}

-- a number with one more number worked in
unfoldable pub mixed : ℕ → ℕ → ℕ
mixed digest more = bit_xor digest more * 0x9e3779b97f4a7c15 % 2 ^ 64

abbrev pub label_digest : ℕ → Label → ℕ
label_digest d Val = mixed d 1
label_digest d Typ = mixed d 2
label_digest d Sig = mixed d 3
label_digest d App = mixed d 4
label_digest d Gen = mixed d 5
label_digest d (Label.Name bytes) = fold mixed d bytes

abbrev pub part_digest : ℕ → Label × ℕ → ℕ
part_digest d x = mixed (label_digest d x.0) x.1

abbrev pub kind_digest : ℕ → Kind → ℕ
kind_digest d Kind.Star = mixed d 1
kind_digest d (Kind.Arrow a b) = kind_digest (kind_digest (mixed d 2) a) b

abbrev pub digest : Shape → ℕ
digest (Shape.Var i) = mixed 1 i
digest Shape.Int = 2
digest Shape.Bool = 3
digest Shape.Text = 4
digest (Shape.Arrow a b) = mixed (mixed 5 a) b
digest (Shape.Fields parts) = fold part_digest 6 parts
digest (Shape.Sum parts) = fold part_digest 7 parts
digest (Shape.All k b) = kind_digest (mixed 8 b) k
digest (Shape.Ex k b) = kind_digest (mixed 9 b) k
digest (Shape.Mu b) = mixed 10 b
digest (Shape.Lam k b) = kind_digest (mixed 11 b) k
digest (Shape.Apply f a) = mixed (mixed 12 f) a

abbrev pub fed_shape : Shape → List (List ℕ)
fed_shape s = fed.u64 (digest s)
