use Rattle.part_numbers.proofs.FoundParts.{found_connected, found_in_order, found_parts}
use Rattle.part_numbers.proofs.search.find_parts.Goals as goal

pub returns-clause-parts : goal.returns-clause-parts
returns-clause-parts c = found_parts c.args.rows.now c.args.core.now c.find_all.new.search c.in_ok-count.count c.requires.marks c.requires.two c.in_ok-count.ensures.followed
    c.in_ok-count.ensures.before

pub returns-clause-connected : goal.returns-clause-connected
returns-clause-connected c = found_connected c.args.rows.now c.args.core.now c.find_all.new.search c.in_ok-count.count c.requires.marks c.requires.two c.in_ok-count.ensures.followed
    c.in_ok-count.ensures.before

pub returns-clause-ordered : goal.returns-clause-ordered
returns-clause-ordered c = found_in_order c.args.rows.now c.args.core.now c.find_all.new.search c.in_ok-count.count c.requires.marks c.requires.two c.in_ok-count.ensures.followed
    c.in_ok-count.ensures.before
