-- Why a closing gets no archive.
use Rattle.std.specs.declared.io.ErrorKind.{ErrorKind}
use Rattle.std.specs.declared.io.ErrorKind.TheVariants as kind
use Rattle.office.specs.declared.new_archive.CopyFault.{CopyFault}
use Rattle.office.specs.declared.new_archive.CopyFault.TheVariants.{Files, Memory, Room}

-- what an error of a file is told as, by its kind
abbrev pub fault_of : ErrorKind → CopyFault
fault_of kind.OutOfMemory = Memory
fault_of kind.StorageFull = Room
fault_of kind.QuotaExceeded = Room
fault_of kind.FileTooLarge = Room
fault_of why = Files
