use Rattle.std.proofs.Common.{◌∙◌, ◌++◌, map, option_map, [], ◌∷◌, ap, sym}
use Rattle.std.proofs.lemmas.List.{map-append}
use Rattle.chains.specs.ChainTexts.{chain_text}
use Rattle.cmr_front.specs.Outcome.{file_of}
use Rattle.cmr_front.specs.Report.{File, asked_file}
use Rattle.cmr_unimodular.specs.Regular.{chain_with}
use Rattle.cmr_unimodular.proofs.RegularAnswers.{chain_written}
use Rattle.cmr_unimodular.proofs.tools.regular.push_chain_with.Goals as goal

pub returns-in_ok-push : goal.returns-in_ok-push
returns-in_ok-push c steps signed signing =
    let before = c.args.files.now.items in
    let text = c.in_ok-bytes.ensures.text
    ∙ chain_written c.args.matrix.now c.in_ok-steps.steps steps c.in_ok-violator.violator c.args.fault.now c.rows.result c.columns.result (c.in_ok-steps.ensures.same steps signed signing) c.in_ok-violator.ensures c.rows.ensures.rows c.columns.ensures.columns in
    ap (map file_of) c.in_ok-push.ensures.items ∙ map-append file_of before _
    ∙ ap (λ bytes. let file : File = record { name = c.in-Some.name.now; bytes = bytes } in map file_of before ++ file ∷ []) text
    ∙ ap (λ name. map file_of before ++ asked_file (option_map (λ name. name.now) name) (chain_text (chain_with c.args.matrix.now steps c.args.fault.now))) (sym c.in-Some.is)
