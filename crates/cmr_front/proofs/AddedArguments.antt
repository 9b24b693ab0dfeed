-- The command to which arguments were added one after another.
use Rattle.std.proofs.Common.{◌≡◌, ◌∙◌, ◌++◌, List, [], ◌∷◌, map, ap, sym, false}
use Rattle.std.specs.List.{AllByRecursion}
use Rattle.std.proofs.lemmas.List.{append-nil, append_assoc}
use Rattle.clap.specs.Words.{AddsArg, AddsInTurn, Rule, Text, app_of, rule_of, with_rule}
use Rattle.clap.specs.declared.builder.arg.Arg.{Arg}
use Rattle.clap.specs.declared.builder.command.Command.{Command}
use Rattle.cmr_front.specs.Words.Arguments.{tool_app}

pub adds_rules : (name : Text) (rules : List Rule) (old : Command) (args : List Arg) (new : Command) → AllByRecursion (λ arg. arg.global ≡ false) args → AddsInTurn AddsArg old args new
    → app_of old ≡ tool_app name rules → app_of new ≡ tool_app name (rules ++ map rule_of args)
adds_rules name rules old [] new local e is = sym (ap app_of e) ∙ is ∙ ap (tool_app name) (sym (append-nil rules))
adds_rules name rules old (arg ∷ args) new local (middle, adds, later) is =
    adds_rules name (rules ++ rule_of arg ∷ []) middle args new local.1 later (adds.shape local.0 ∙ ap (λ app. with_rule app (rule_of arg)) is)
    ∙ ap (tool_app name) (append_assoc rules (rule_of arg ∷ []) (map rule_of args))
