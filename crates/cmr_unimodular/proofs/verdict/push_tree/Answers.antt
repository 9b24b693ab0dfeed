use Rattle.std.proofs.Common.{◌∙◌, ◌++◌, map, option_map, [], ◌∷◌, ap, sym}
use Rattle.std.proofs.lemmas.List.{map-append}
use Rattle.cmr_front.specs.Outcome.{file_of}
use Rattle.cmr_front.specs.Report.{File}
use Rattle.cmr_unimodular.specs.Verdict.{tree_file}
use Rattle.cmr_unimodular.proofs.verdict.push_tree.Goals as goal

pub returns-in_ok-push : goal.returns-in_ok-push
returns-in_ok-push c =
    let before = c.args.files.now.items in
    ap (map file_of) c.in_ok-push.ensures.items ∙ map-append file_of before _
    ∙ ap (λ bytes. let file : File = record { name = c.in-Some.name.now; bytes = bytes } in map file_of before ++ file ∷ []) c.in_ok-bytes.ensures.text
    ∙ ap (λ name. map file_of before ++ tree_file (option_map (λ name. name.now) name) c.args.tree.now) (sym c.in-Some.is)
