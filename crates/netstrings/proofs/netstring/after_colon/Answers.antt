use Rattle.std.proofs.Common.{◌+◌, ◌-◌, List, ℕ, length, drop, take, rules}
use Rattle.std.proofs.lemmas.List.{take_rest}
use Rattle.netstrings.proofs.NetstringLemmas.{headed, is_cut, is_no_netstring}
use Rattle.netstrings.proofs.netstring.after_colon.Goals as goal

pub returns-then-left-count : goal.returns-then-left-count
returns-then-left-count c =
    let bytes = c.args.bytes.now in
    let left : List ℕ = take (length bytes - (c.args.at + 1)) (drop (c.args.at + 1) bytes) in
    is_cut bytes left c.args.count (headed bytes left c.args.at c.args.count c.requires.first (take_rest bytes (c.args.at + 1)) c.requires.digits c.requires.small) (search rules)

pub returns-then-left-count-ne44 : goal.returns-then-left-count-ne44
returns-then-left-count-ne44 c =
    let bytes = c.args.bytes.now in
    let left : List ℕ = take (length bytes - (c.args.at + 1)) (drop (c.args.at + 1) bytes) in
    is_no_netstring bytes left c.args.count (headed bytes left c.args.at c.args.count c.requires.first (take_rest bytes (c.args.at + 1)) c.requires.digits c.requires.small) (search rules) (search rules)
