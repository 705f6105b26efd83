-- The theorems.
use Rattle.std.specs.Prelude.{ℕ, List, [], ◌∷◌, ◌++◌}
use Rattle.sig_definitions.specs.Signatures.Sig.{Module}
use Rattle.sig_definitions.specs.Verdict.{Verdict}
use Rattle.sig_laws.specs.Good.{OkEnv, OkModule}
use Rattle.unit_judgments.specs.Interfaces.{Interface, env_of, OkInterfaces}
use Rattle.unit_judgments.specs.Link.{UnitModule, Foreign, Links, OkUnits, Replaces}

-- interfaces of well formed signatures give a good environment
abbrev pub InterfacesGiveScopes : Type 0
InterfacesGiveScopes = (under : List Interface) → OkInterfaces [] under → OkEnv (env_of under)

-- units of good modules have one link, or a first one that is foreign
abbrev pub LinkIsExact : Type 0
LinkIsExact = (us : List UnitModule) → OkUnits us → Verdict (Links us) (Foreign us)

-- what good modules link to is good
abbrev pub LinkIsGood : Type 0
LinkIsGood = (us : List UnitModule) (m : Module) → OkUnits us → Links us m → OkModule [] m

-- in the place of a unit another one of its interface, under the same interfaces: the list links with the one exactly where
-- it links with the other, and the same unit is foreign
pub record SameLinks (us vs : List UnitModule) : Type 0 where
  pub there : (m : Module) → Links us m → (n : Module) × Links vs n
  pub back : (m : Module) → Links vs m → (n : Module) × Links us n
  pub foreign : (n : ℕ) → Foreign us n → Foreign vs n
  pub foreign_back : (n : ℕ) → Foreign vs n → Foreign us n

abbrev pub InterfacesSuffice : Type 0
InterfacesSuffice = (front back : List UnitModule) (u v : UnitModule) → Replaces u v → OkUnits (front ++ u ∷ back) → OkUnits (front ++ v ∷ back) → SameLinks (front ++ u ∷ back) (front ++ v ∷ back)
