use Rattle.std.proofs.Common.{◌≡◌, drop}
use Rattle.vg_io.specs.MemFiles.{bytes_named, named_bytes}
use Rattle.vg_io.proofs.mem_files.find.Given as goal

-- no file before this one has the name
abbrev pub invariant-loop-file : goal.invariant-loop-file
invariant-loop-file l =
    bytes_named (named_bytes (drop l.file-index l.files)) l.name ≡ bytes_named (named_bytes l.files) l.name
