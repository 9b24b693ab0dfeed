-- Runs of one order that read the same texts.
use Rattle.std.specs.Prelude.{◌≡◌, ◌++◌, ℕ, IsTrue, List}
use Rattle.cmr_front.specs.declared.status.Answer.{Answer}
use Rattle.cmr_front.specs.Ending.{Devices, Standing}
use Rattle.cmr_front.specs.Run.{Runs, work}
use Rattle.cmr_front.specs.Status.{answer_status}
use Rattle.cmr_tools.specs.ToolOrders.{Order, tool_of}

-- A run of an order over any devices: its reads have given these texts, and it ended with the status of an answer.
pub record AnsweredRun (order : Order) (bytes : List (List ℕ)) : Type 0 where
  pub standing : Standing
  pub before : Devices
  pub after : Devices
  pub status : ℕ
  pub answer : Answer
  pub runs : Runs (work (tool_of order)) standing before after status
  pub has_answer : status ≡ answer_status answer
  pub read : after.reads.texts ≡ before.reads.texts ++ bytes

-- standard output has taken these bytes, and has got them if it tells its bytes
pub record HasOutput {order : Order} {bytes : List (List ℕ)} (run : AnsweredRun order bytes) (output : List ℕ) : Type 0 where
  pub taken : run.after.output_taken ≡ run.before.output_taken ++ output
  pub got : IsTrue run.standing.output_tells → run.after.output ≡ run.before.output ++ output

-- one status, and one standard output
pub record HaveOneAnswer {order : Order} {bytes : List (List ℕ)} (one other : AnsweredRun order bytes) : Type 0 where
  pub status : one.status ≡ other.status
  pub output : List ℕ
  pub of_one : HasOutput one output
  pub of_other : HasOutput other output

abbrev pub RunsHaveOneAnswer : Type 0
RunsHaveOneAnswer = (order : Order) (bytes : List (List ℕ)) (one other : AnsweredRun order bytes) → HaveOneAnswer one other
