mod ShownBelow
