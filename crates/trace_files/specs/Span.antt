-- The region of a span.
use Rattle.device_types.specs.declared.region.Region.{Region}
use Rattle.trace_files.specs.declared.span.Span.{Span}

abbrev pub region_of : Span → Region
region_of span = record { first = span.first; last = span.last }
