-- One try as the code makes it.
use Rattle.std.specs.Prelude.{Bool, true, false, Result, Ok, Err}
use Rattle.refusal.specs.declared.Reason.{Reason}

-- the call goes on where the test passes, and else refuses for this reason
abbrev pub required : Bool → Reason → Result (Unit {0}) Reason
required true r = Ok tt
required false r = Err r
