mod CallEnd
