-- The clauses of the trait for a shelf that tells nothing and is never calm.
use Rattle.std.proofs.Common.{◌∙◌, sym, refl, arith}
use Rattle.cmr_io.proofs.real_shelf.RealShelfShelf.TheImpl.Goals as goal

pub begin_read-tells : goal.begin_read-tells
begin_read-tells g c = record {
  begun = c.ensures.begun;
  ended = c.ensures.ended;
  left = grind arith;
  ready = grind arith;
  kept = record { names = λ name. refl; standing = record { telling = refl; calm = λ calm. calm; rooms = λ name. refl } };
  reads = c.ensures.reads;
  writes = c.ensures.writes;
  counted = record { last = c.ensures.failed; cause = c.ensures.cause };
}

pub next-tells : goal.next-tells
next-tells g c = record {
  within = c.ensures.within;
  given = grind arith;
  err = grind arith;
  ready = grind arith;
  begun = record { reading = c.ensures.begun.0 ∙ sym c.requires; writing = c.ensures.begun.1 };
  kept = record { names = λ name. refl; standing = record { telling = refl; calm = λ calm. calm; rooms = λ name. refl } };
  reads = c.ensures.logs.0;
  writes = c.ensures.logs.1;
  counted = record { last = c.ensures.failed; cause = c.ensures.cause };
}

pub begin_write-tells : goal.begin_write-tells
begin_write-tells g c = record {
  begun = c.ensures.begun;
  ended = c.ensures.ended;
  emptied = grind arith;
  err = grind arith;
  ready = grind arith;
  kept = record { others = λ name ne. refl; standing = record { telling = refl; calm = λ calm. calm; rooms = λ name. refl } };
  reads = c.ensures.reads;
  writes = c.ensures.writes;
  counted = record { last = c.ensures.failed; cause = c.ensures.cause };
}

pub put-tells : goal.put-tells
put-tells g c = record {
  taken = c.ensures.taken;
  written = grind arith;
  ready = grind arith;
  begun = record { reading = c.ensures.begun.0; writing = c.ensures.begun.1 ∙ sym c.requires };
  target = refl;
  kept = record { others = λ name ne. refl; standing = record { telling = refl; calm = λ calm. calm; rooms = λ name. refl } };
  reads = c.ensures.logs.0;
  writes = c.ensures.logs.1;
  counted = record { last = c.ensures.failed; cause = c.ensures.cause };
}
