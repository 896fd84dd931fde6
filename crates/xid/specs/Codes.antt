-- The return codes of X/Open XA (C193), chapter "The xa.h Header", by number.
use Rattle.std.specs.Prelude.{ℤ, pos, negsuc}
use Rattle.xid.specs.declared.codes.XaCode.{XaCode}
use Rattle.xid.specs.declared.codes.XaCode.TheVariants as code

-- a code's number in the standard; negsuc n is -(n + 1)
abbrev pub code_number : XaCode → ℤ
code_number code.Ok = pos 0
code_number code.RbRollback = pos 100
code_number code.Nota = negsuc 3
code_number code.Inval = negsuc 4
code_number code.Proto = negsuc 5
code_number code.RmFail = negsuc 6
code_number code.DupId = negsuc 7
