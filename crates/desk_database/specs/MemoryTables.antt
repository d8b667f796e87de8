-- The file of a memory: pages with sums, and two tables as its objects.
use Rattle.std.specs.Prelude.{ℕ, true, List, [], ◌∷◌, ◌++◌, codes}
use Rattle.sqlite_value.specs.declared.value.Value.TheVariants.{Text}
use Rattle.sqlite_trees.specs.declared.store.Shape.TheVariants.{Table}
use Rattle.sqlite_pool.specs.Stored.{used_size}
use Rattle.sqlite_store.specs.declared.catalog.Wanted.{Wanted}

-- SQLite's page of 4096 bytes, less the eight of its sum (SQLite's cksumvfs)
abbrev pub page_size : ℕ
page_size = used_size 4096 true

-- the text that makes the table of devices
abbrev pub table_text : List ℕ
table_text =
    codes "CREATE TABLE device (place INTEGER PRIMARY KEY, name TEXT NOT NULL, "
    ++ codes "key BLOB NOT NULL, moves INTEGER NOT NULL, gone TEXT, count INTEGER NOT NULL, "
    ++ codes "outstanding INTEGER, number INTEGER, answer TEXT) STRICT"

-- tree 0, as `sqlite_schema` describes it: type, name, table and text
abbrev pub device_table : Wanted
device_table = record {
  shape = Table;
  reals = 0;
  row = Text (codes "table") ∷ Text (codes "device") ∷ Text (codes "device") ∷ Text table_text ∷ [];
}

-- the text that makes the table of the desk
abbrev pub desk_text : List ℕ
desk_text =
    codes "CREATE TABLE desk (place INTEGER PRIMARY KEY, name TEXT NOT NULL, "
    ++ codes "version INTEGER NOT NULL) STRICT"

-- tree 1
abbrev pub desk_table : Wanted
desk_table = record {
  shape = Table;
  reals = 0;
  row = Text (codes "table") ∷ Text (codes "desk") ∷ Text (codes "desk") ∷ Text desk_text ∷ [];
}

abbrev pub memory_schema : List Wanted
memory_schema = device_table ∷ desk_table ∷ []
