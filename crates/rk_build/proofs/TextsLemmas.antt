-- Texts that were put out.
use Rattle.std.proofs.Common.{arith, Result, Ok, Err, inl, inr}
use Rattle.rk_base.specs.Text.{Text}
use Rattle.rk_folder.specs.Sinks.{Puts, PutCaused, PutMemoryCaused}
use Rattle.rk_folder.specs.declared.sink.SinkErr.{SinkErr}
use Rattle.rk_folder.specs.declared.sink.SinkErr.TheVariants as sink
use Rattle.rk_build.specs.Telling.{SinkState, IsPut, PutsLine, PutSo, PutsOutput, PutsErrors}
use Rattle.rk_build.specs.declared.stop.BuildErr.{BuildErr}
use Rattle.rk_build.specs.declared.stop.BuildErr.TheVariants as stop

-- the output went out whole, whatever the put of the error text came to
pub put-first : {T : Type 0} (text : Text) (old new : SinkState) (later : Text) (before now : SinkState) (r : Result T BuildErr) → PutSo later before now r → IsPut text old new → PutsOutput text old new r
put-first text old new later before now (Ok it) put whole = whole
put-first text old new later before now (Err (stop.Refused refusal)) put whole = absurd put
put-first text old new later before now (Err (stop.Forged rec step)) put whole = absurd put
put-first text old new later before now (Err stop.Spent) put whole = absurd put
put-first text old new later before now (Err stop.ReadFault) put whole = absurd put
put-first text old new later before now (Err stop.WriteFault) put whole = inl whole
put-first text old new later before now (Err stop.NoMemory) put whole = inl whole

-- the error text was put or cut
pub put-last : {T : Type 0} (text : Text) (old new : SinkState) (r : Result T BuildErr) → PutSo text old new r → PutsErrors text old new r
put-last text old new (Ok it) put = put
put-last text old new (Err (stop.Refused refusal)) put = absurd put
put-last text old new (Err (stop.Forged rec step)) put = absurd put
put-last text old new (Err stop.Spent) put = absurd put
put-last text old new (Err stop.ReadFault) put = absurd put
put-last text old new (Err stop.WriteFault) put = inr put
put-last text old new (Err stop.NoMemory) put = inr put

-- whatever a put came to, the line went out whole, or a front of it did and a count rose
pub put-line : {T : Type 0} (line : Text) (old new : SinkState) (r : Result T SinkErr) → Puts line old.so_far new.so_far r → PutCaused old.faults new.faults r → PutMemoryCaused old.memory new.memory r → PutsLine line old new
put-line line old new (Ok it) put caused memory = inl (record { whole = put; faults = caused; memory = memory })
put-line line old new (Err sink.Failed) put caused memory = inr (record { front = put; faults = caused.0; memory = omega arith; cause = inl caused.1 })
put-line line old new (Err sink.NoMemory) put caused memory = inr (record { front = put; faults = omega arith; memory = memory.0; cause = inr memory.1 })
