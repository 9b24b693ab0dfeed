-- The line on a tree that breaks a rule.
use Rattle.std.specs.Prelude.{◌+◌, ◌++◌, ℕ, List, [], ◌∷◌, codes}
use Rattle.std.specs.Fmt.{decimal}
use Rattle.tree_type.specs.declared.refusal.Rule.{Rule}
use Rattle.tree_type.specs.declared.refusal.Rule.TheVariants as rule

abbrev pub rule_name : Rule → List ℕ
rule_name rule.Size = codes "Size"
rule_name rule.Lines = codes "Lines"
rule_name rule.NotEmpty = codes "NotEmpty"
rule_name rule.NotViolator = codes "NotViolator"
rule_name rule.NotReducible = codes "NotReducible"
rule_name rule.NotApart = codes "NotApart"
rule_name rule.NotNetwork = codes "NotNetwork"
rule_name rule.NotR10 = codes "NotR10"
rule_name rule.CycleFault = codes "CycleFault"
rule_name rule.TooShort = codes "TooShort"
rule_name rule.BadConnector = codes "BadConnector"
rule_name rule.CornerSign = codes "CornerSign"
rule_name rule.BadBlock = codes "BadBlock"
rule_name rule.TooMany = codes "TooMany"
rule_name rule.NotClean = codes "NotClean"
rule_name rule.NotPivot = codes "NotPivot"
rule_name rule.BelowPivot = codes "BelowPivot"

-- numbers of children, counted from 1, each after a dot
abbrev pub dotted : List ℕ → List ℕ
dotted [] = []
dotted (child ∷ path) = codes "." ++ decimal (child + 1) ++ dotted path

-- the node at a path: the numbers of children that lead to it, with a dot between them
abbrev pub node_name : List ℕ → List ℕ
node_name [] = codes "root"
node_name (child ∷ path) = decimal (child + 1) ++ dotted path

-- the node at this path breaks this rule
abbrev pub refusal_line : List ℕ → Rule → List ℕ
refusal_line path broken = codes "refused: " ++ node_name path ++ codes " " ++ rule_name broken ++ codes "\n"
