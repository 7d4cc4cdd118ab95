use Rattle.std.proofs.Common.{◌≡◌, drop}
use Rattle.io_edge.specs.Memory.{file_named}
use Rattle.io_edge.specs.Named.{named_files}
use Rattle.io_edge.proofs.memory_shelf.find_file.Given as goal

-- no file so far has the name
abbrev pub invariant-loop-file : goal.invariant-loop-file
invariant-loop-file l = file_named (named_files (drop l.file-index l.files)) l.name ≡ file_named (named_files l.fn.files) l.name
