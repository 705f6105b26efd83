-- The simple command as which the words are read.
use Rattle.std.specs.Prelude.{[], ◌∷◌, Some, true, codes}
use Rattle.clap.specs.Walk.{Rule}
use Rattle.clap.specs.Simple.{App, new_rule, new_shape}
use Rattle.clap.specs.declared.builder.action.ArgAction.TheVariants.{Set, SetTrue}

-- the required positional `command`
abbrev pub command_rule : Rule
command_rule = record (new_rule (codes "command")) { action = Some Set; required = true }

-- the optional positional `n`
abbrev pub n_rule : Rule
n_rule = record (new_rule (codes "n")) { action = Some Set }

-- the option `--budget` with one value
abbrev pub budget_rule : Rule
budget_rule = record (new_rule (codes "budget")) { long = Some (codes "budget"); action = Some Set }

-- the flag `--simplify`, which takes no value: it has the value `true` where it is given, and else `false`
abbrev pub simplify_rule : Rule
simplify_rule = record (new_rule (codes "simplify")) { long = Some (codes "simplify"); action = Some SetTrue }

-- the words are those after the program's name, and there are no flags for help and the version
abbrev pub simple_command : App
simple_command = record {
  top = record (new_shape (codes "fing")) {
    rules = command_rule ∷ n_rule ∷ budget_rule ∷ simplify_rule ∷ [];
    no_binary_name = true;
    disable_help_flag = true;
    disable_version_flag = true;
  };
  subs = [];
}
