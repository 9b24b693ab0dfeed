use Rattle.cmr_front.proofs.error_lines.write_stop.Goals as goal

pub returns-in-BadWords : goal.returns-in-BadWords
returns-in-BadWords g c = rw c.in-BadWords.is c.write_line.ensures

pub returns-in-CannotRead : goal.returns-in-CannotRead
returns-in-CannotRead g c = rw c.in-CannotRead.is c.write_line-in-CannotRead.ensures

pub returns-in-TooLong : goal.returns-in-TooLong
returns-in-TooLong g c = rw c.in-TooLong.is c.write_line-in-TooLong.ensures

pub returns-in-Memory : goal.returns-in-Memory
returns-in-Memory g c = rw c.in-Memory.is c.write_line-in-Memory.ensures
