-- What disturbs a run of the executable region: of a step in it, and of a step outside it.
use Rattle.std.specs.{Prelude.{◌&&◌, ◌||◌, Bool, not, Option, is_some, option_to_list}, List.list_any}
use Rattle.device_types.specs.{declared.{access.Access.Access, region.Region.Region}, Access.some_writes, Map.{some_touches, metadata_region}, ExecFlag.fetches_outside}

abbrev pub disturbs_run : Region → Option Access → Option Access
    → Bool → Bool → Bool → Bool → Bool
disturbs_run er cpu dma reset irq at_min ran =
    reset || irq || is_some dma
    || (some_writes cpu && (some_touches cpu er || some_touches cpu metadata_region))
    || list_any (fetches_outside er) (option_to_list cpu)
    || (not at_min && not ran)

abbrev pub disturbs_rest : Region → Region → Option Access → Option Access
    → Bool → Bool → Bool → Bool
disturbs_rest er output cpu dma reset ran at_max =
    reset
    || (some_writes cpu && (some_touches cpu er || some_touches cpu output
    || some_touches cpu metadata_region))
    || some_touches dma er || some_touches dma output
    || (some_writes dma && some_touches dma metadata_region)
    || (ran && not at_max)
