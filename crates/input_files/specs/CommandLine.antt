-- What a program is given of its command line.
use Rattle.std.specs.{Prelude.{◌≡◌, ℕ, List, String, Vec, drop, Result, Ok, Err, string_bytes, map}, Vec.Iter.into_iter_items, IoError.error_kind, declared.{alloc.Global.Global, io.{Error.Error, ErrorKind.{ErrorKind, TheVariants.InvalidData}}, vec.IntoIter.IntoIter}}
use Rattle.input_files.specs.declared.status.Status.{Status, TheVariants.{Words, Memory}}

-- The arguments of a command line.

abbrev pub texts : List (String Global) → List (List ℕ)
texts arguments = map string_bytes arguments

-- its words, the first of which is the program's name; or the system's error where it has none
abbrev pub CommandLine : Type 0
CommandLine = Result (IntoIter (String Global) Global) Error

-- the arguments are the words behind the name, each in its place
abbrev pub arguments_in : IntoIter (String Global) Global → List (List ℕ)
arguments_in words = drop 1 (texts (into_iter_items words))

-- the answer where there are no words: one is no UTF-8, or there was no memory for them
abbrev pub refused_words : ErrorKind → Status
refused_words InvalidData = Words
refused_words kind = Memory

-- the arguments of a command line, or the answer where there are none
abbrev pub Gives : CommandLine → Result (Vec (String Global) Global) Status → Type 0
Gives (Ok words) (Ok arguments) = texts arguments.items ≡ arguments_in words
Gives (Ok words) (Err status) = status ≡ Memory
Gives (Err error) result = result ≡ Err (refused_words (error_kind error))
